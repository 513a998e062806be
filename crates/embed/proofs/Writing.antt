-- Equations written one row after another: the turns of `write_rows`.
use Prim.Native.Nat.{ℕ, suc, ◌+◌, ◌*◌, ◌/◌, ◌≤◌, ◌<◌}
use mathlib.Core.Path.{◌≡◌, refl, sym, ap, ap₂, ◌∙◌}
use mathlib.Core.List.{List, [], ◌∷◌, ◌++◌, append-nil, append_assoc, map-append}
use mathlib.Core.Bool.{Bool, true, false, cond, ◌&&◌, and-eq-true_iff}
use native.Mathlib.Nat.{suc-mul, zero-mul, add-zero, add-mul}
use native.Mathlib.Omega.{arith}
use borrow.Author.Tests.{leb-true}
use lib.Dec.{leb}
use lib.ListN.{length, get_or, take, drop, set, replicate, length-append, length-replicate, length-set, take-append-drop, length-map}
use lib.Seq.{length-take-le, drop-drop, take_at, drop_at, set_split}
use Rattle.std.proofs.lemmas.List.{take_more, take_all}
use Rattle.words.specs.Set.{odd}
use Rattle.words.specs.Calls.{inserted}
use Rattle.rows.specs.declared.Source.{Source}
use Rattle.hull.specs.Propose.{limit, blank}
use Rattle.embed.specs.Written.{marked, row_words, one_if, constants_of, written_words, written_constants}
use Rattle.hull.specs.declared.LocalEquation.{LocalEquation}

pub inserted_length : (ws : List ℕ) (a : ℕ) → length (inserted ws a) ≡ length ws
unfolding inserted
inserted_length ws a = length-set ws (a / 64) _

pub marked_length : (names : List ℕ) (c : ℕ) (ws : List ℕ) → length (marked names c ws) ≡ length ws
unfolding marked
marked_length [] c ws = refl
marked_length (a ∷ names) c ws = marked_length names (c / 2) (cond (odd c) (inserted ws a) ws) ∙ either (odd c)
  where
    either : (b : Bool) → length (cond b (inserted ws a) ws) ≡ length ws
    either true = inserted_length ws a
    either false = refl

pub row_words_length : (w : ℕ) (names : List ℕ) (es : List LocalEquation) → length (row_words w names es) ≡ length es * w
unfolding row_words
row_words_length w names [] = sym (zero-mul w)
row_words_length w names (e ∷ es) =
    let one : length (marked names e.coefficients (replicate w 0)) ≡ w = marked_length names e.coefficients (replicate w 0) ∙ length-replicate {A = ℕ} w 0 in
    simp length-append (omega (arith, one, row_words_length w names es, suc-mul (length es) w))

pub row_words_snoc : (w : ℕ) (names : List ℕ) (es : List LocalEquation) (e : LocalEquation)
    → row_words w names (es ++ (e ∷ [])) ≡ row_words w names es ++ marked names e.coefficients (replicate w 0)
unfolding row_words
row_words_snoc w names [] e = append-nil (marked names e.coefficients (replicate w 0))
row_words_snoc w names (d ∷ es) e =
    let one = marked names d.coefficients (replicate w 0) in
    ap (λ (l : List ℕ). one ++ l) (row_words_snoc w names es e)
    ∙ sym (append_assoc one (row_words w names es) (marked names e.coefficients (replicate w 0)))

constants_snoc : (es : List LocalEquation) (e : LocalEquation) → constants_of (es ++ (e ∷ [])) ≡ constants_of es ++ (one_if e.constant ∷ [])
constants_snoc es e = map-append (λ (d : LocalEquation). one_if d.constant) es (e ∷ [])

-- ---- a part written over a list: what was written before it, and what is left after

-- p stands in the place of as many words of ws from x on
pub written : List ℕ → ℕ → List ℕ → List ℕ
written ws x p = take x ws ++ (p ++ drop (x + length p) ws)

module _ (ws : List ℕ) (x : ℕ) (p q : List ℕ) (fits : x + length p + length q ≤ length ws) where
  front : length (take x ws ++ p) ≡ x + length p
  front = simp length-append (omega (arith, length-take-le x ws (omega arith)))

  -- q written right behind p
  pub written_more : take (x + length p) (written ws x p) ++ (q ++ drop (x + length p + length q) (written ws x p)) ≡ written ws x (p ++ q)
  unfolding written
  written_more =
      let y = x + length p in
      let whole : written ws x p ≡ (take x ws ++ p) ++ drop y ws = sym (append_assoc (take x ws) p (drop y ws)) in
      let head : take y (written ws x p) ≡ take x ws ++ p = ap (take y) whole ∙ take_at (take x ws ++ p) (drop y ws) y front in
      let tail : drop (y + length q) (written ws x p) ≡ drop (y + length q) ws =
      sym (drop-drop (length q) y (written ws x p)) ∙ ap (drop (length q)) (ap (drop y) whole ∙ drop_at (take x ws ++ p) (drop y ws) y front)
      ∙ drop-drop (length q) y ws in
      let end : y + length q ≡ x + length (p ++ q) = simp length-append (omega arith) in
      ap₂ (λ (h t : List ℕ). h ++ (q ++ t)) head tail ∙ append_assoc (take x ws) p (q ++ drop (y + length q) ws)
      ∙ ap (λ (l : List ℕ). take x ws ++ l) (sym (append_assoc p q (drop (y + length q) ws)))
      ∙ ap (λ (n : ℕ). take x ws ++ (p ++ q ++ drop n ws)) end

-- after m turns: the first m equations are written from row f on
pub record Writing (w : ℕ) (names : List ℕ) (es : List LocalEquation) (ws cs : List ℕ) (f : ℕ) (ws' cs' : List ℕ) (m : ℕ) : Type 0 where
  pub kept : length ws' ≡ length ws
  pub kept' : length cs' ≡ length cs
  pub words : ws' ≡ written ws (f * w) (row_words w names (take m es))
  pub constants : cs' ≡ written cs f (constants_of (take m es))

pub writing_start : (w : ℕ) (names : List ℕ) (es : List LocalEquation) (ws cs : List ℕ) (f : ℕ) → Writing w names es ws cs f ws cs 0
unfolding written row_words
writing_start w names es ws cs f = record { kept = refl; kept' = refl; words = none ws (f * w); constants = none cs f }
  where
    none : (l : List ℕ) (x : ℕ) → l ≡ take x l ++ drop (x + 0) l
    none l x = sym (take-append-drop x l) ∙ ap (λ (n : ℕ). take x l ++ drop n l) (sym (add-zero x))

module _ (w : ℕ) (names : List ℕ) (es : List LocalEquation) (ws cs : List ℕ) (f : ℕ) (ws' cs' : List ℕ) (m : ℕ)
    (few : m < length es) (words : (f + m) * w + w ≤ length ws) (constants : f + m < length cs) (so : Writing w names es ws cs f ws' cs' m) where
  so_far : length (take m es) ≡ m
  so_far = length-take-le m es (omega arith)

  abbrev e : LocalEquation
  e = get_or es m blank

  pub writing_next : (ws'' : List ℕ) → ws'' ≡ take ((f + m) * w) ws' ++ (marked names e.coefficients (replicate w 0) ++ drop ((f + m) * w + w) ws')
      → length ws'' ≡ length ws' → (v : ℕ) → v ≡ one_if e.constant → Writing w names es ws cs f ws'' (set cs' (f + m) v) (m + 1)
  writing_next ws'' is kept v constant =
      let p = row_words w names (take m es) in
      let q = marked names e.coefficients (replicate w 0) in
      let lp : length p ≡ m * w = row_words_length w names (take m es) ∙ ap (λ (n : ℕ). n * w) so_far in
      let lq : length q ≡ w = marked_length names e.coefficients (replicate w 0) ∙ length-replicate {A = ℕ} w 0 in
      let c = constants_of (take m es) in
      let lc : length c ≡ m = length-map (take m es) (λ (d : LocalEquation). one_if d.constant) ∙ so_far in
      let there : f + m < length cs' = omega (arith, so.kept') in
      let more : take m es ++ (e ∷ []) ≡ take (m + 1) es = sym (take_more es m blank few) in
      let from : (f + m) * w ≡ f * w + length p = omega (arith, add-mul f m w, lp) in
      let to : (f + m) * w + w ≡ f * w + length p + length q = omega (arith, add-mul f m w, lp, lq) in
      let at_from : f + m ≡ f + length c = omega (arith, lc) in
      let at-to : suc (f + m) ≡ f + length c + length (v ∷ []) = omega (arith, lc) in
      let room : f * w + length p + length q ≤ length ws = omega (arith, add-mul f m w) in
      let room' : f + length c + length (v ∷ []) ≤ length cs = omega arith in
      record {
        kept = kept ∙ so.kept;
        kept' = simp length-set so.kept';
        words =
            is ∙ ap₂ (λ (a b : ℕ). take a ws' ++ (q ++ drop b ws')) from to
            ∙ ap (λ (l : List ℕ). take (f * w + length p) l ++ (q ++ drop (f * w + length p + length q) l)) so.words
            ∙ written_more ws (f * w) p q room
            ∙ ap (written ws (f * w)) (sym (row_words_snoc w names (take m es) e) ∙ ap (row_words w names) more);
        constants =
            set_split cs' (f + m) v there ∙ ap₂ (λ (a b : ℕ). take a cs' ++ ((v ∷ []) ++ drop b cs')) at_from at-to
            ∙ ap (λ (l : List ℕ). take (f + length c) l ++ ((v ∷ []) ++ drop (f + length c + length (v ∷ [])) l)) so.constants
            ∙ written_more cs f c (v ∷ []) room'
            ∙ ap (written cs f) (ap (λ (x : ℕ). c ++ (x ∷ [])) constant ∙ sym (constants_snoc (take m es) e) ∙ ap constants_of more);
      }

module _ (w : ℕ) (names : List ℕ) (es : List LocalEquation) (ws cs : List ℕ) (f : Source) (ws' cs' : List ℕ) (m : ℕ)
    (so : Writing w names es ws cs f.0 ws' cs' m) (all : length es ≤ m) where
  pub words_written : ws' ≡ written_words w ws es names f
  unfolding written written_words
  words_written =
      so.words ∙ ap (λ (l : List LocalEquation). written ws (f.0 * w) (row_words w names l)) (take_all m es all)
      ∙ ap (λ (n : ℕ). take (f.0 * w) ws ++ (row_words w names es ++ drop (f.0 * w + n) ws)) (row_words_length w names es)

  pub constants_written : cs' ≡ written_constants cs es f
  unfolding written written_constants
  constants_written =
      so.constants ∙ ap (λ (l : List LocalEquation). written cs f.0 (constants_of l)) (take_all m es all)
      ∙ ap (λ (n : ℕ). take f.0 cs ++ (constants_of es ++ drop (f.0 + n) cs)) (length-map es (λ (d : LocalEquation). one_if d.constant))

-- ---- room

-- what the tests of `write` tell
pub record CanWrite (n c w count f : ℕ) : Type 0 where
  pub few : count ≤ limit
  pub constants : f + count ≤ c
  pub words : (f + count) * w ≤ n

pub can_write : (n c w count f : ℕ) → (leb count limit && (leb (f + count) c && leb ((f + count) * w) n)) ≡ true → CanWrite n c w count f
can_write n c w count f e =
    let outer = (and-eq-true_iff (leb count limit) (leb (f + count) c && leb ((f + count) * w) n)).0 e in
    let inner = (and-eq-true_iff (leb (f + count) c) (leb ((f + count) * w) n)).0 outer.1 in
    record { few = leb-true count limit outer.0; constants = leb-true (f + count) c inner.0; words = leb-true ((f + count) * w) n inner.1 }
