-- An earlier row added to a later one, from some word on: the words split where the later row begins, and joined again.
use Prim.Native.Nat.{ℕ, ◌+◌, ◌-◌, ◌*◌, ◌≤◌, ◌<◌}
use mathlib.Core.Path.{◌≡◌, sym, ap, ap₂, ◌∙◌}
use mathlib.Core.List.{List, ◌++◌, zip_with, append_assoc}
use mathlib.Core.Bool.{true, ◌&&◌, and-eq-true_iff}
use native.Mathlib.Nat.{suc-mul, mul-le-mul_right}
use native.Mathlib.Omega.{arith}
use borrow.Author.Tests.{eq-eqb, ltb-true, leb-true}
use lib.ListN.{length, take, drop, length-drop}
use lib.Seq.{length-take-le, drop-drop, take-take}
use lib.Dec.{leb, ltb}
use lib.Bits.{bit_xor}
use Rattle.std.proofs.lemmas.List.{drop-take}
use Rattle.words.specs.Calls.{merged}
use Rattle.rows.specs.Flat.{row}

-- an earlier row ends where a later one begins, or before
pub earlier : (w t s : ℕ) → s < t → s * w + w ≤ t * w
earlier w t s h = omega (arith, suc-mul s w, mul-le-mul_right w h)

-- the earlier part has the earlier row
pub front_part : (w x y : ℕ) (ws : List ℕ) → y + w ≤ x → take w (drop y (take x ws)) ≡ take w (drop y ws)
front_part w x y ws h =
    let e : x ≡ y + (x - y) = omega arith in
    ap (λ (n : ℕ). take w (drop y (take n ws))) e ∙ ap (take w) (drop-take y (x - y) ws) ∙ take-take w (x - y) (drop y ws) (omega arith)

-- the words from word i of a row on added, n of them: the rest of the row and all other words stay
pub added_split : {p q new : List ℕ} (i n w t s j k : ℕ) (ws : List ℕ) → i + n ≡ w → j ≡ s * w + i → k ≡ n → s < t → t * w + w ≤ length ws
    → p ≡ take (t * w) ws → q ≡ drop (t * w) ws → new ≡ merged bit_xor (take n (drop i q)) (take k (drop j p))
    → p ++ (take i q ++ (new ++ drop w q))
    ≡ take (t * w) ws ++ ((take i (row w ws t) ++ zip_with bit_xor (drop i (row w ws t)) (drop i (row w ws s))) ++ drop (t * w + w) ws)
unfolding merged
added_split {p} {q} {new} i n w t s j k ws wide place count order fits front back joined =
    let x = t * w in
    let y = s * w in
    let before = earlier w t s order in
    let later = row w ws t in
    let sooner = row w ws s in
    let part : (l : List ℕ) → drop i (take w l) ≡ take n (drop i l) = λ l. ap (λ m. drop i (take m l)) (sym wide) ∙ drop-take i n l in
    let from : take k (drop j p) ≡ drop i sooner =
    ap₂ (λ m l. take m (drop j l)) count front ∙ ap (λ m. take n (drop m (take x ws))) place ∙ front_part n x (y + i) ws (omega arith)
    ∙ ap (take n) (sym (drop-drop i y ws)) ∙ sym (part (drop y ws)) in
    let to : take n (drop i q) ≡ drop i later = ap (λ l. take n (drop i l)) back ∙ sym (part (drop x ws)) in
    let there : length (drop i later) ≡ n = length-drop i later ∙ ap (λ m. m - i) (length-take-le w (drop x ws) (simp length-drop (omega arith))) ∙ omega arith in
    let here : length (drop i sooner) ≡ n = length-drop i sooner ∙ ap (λ m. m - i) (length-take-le w (drop y ws) (simp length-drop (omega arith))) ∙ omega arith in
    let sum : new ≡ zip_with bit_xor (drop i later) (drop i sooner) = joined ∙ ap₂ (merged bit_xor) to from ∙ simp (eq-eqb _ _ (there ∙ sym here)) in
    let kept : take i q ≡ take i later = ap (take i) back ∙ sym (take-take i w (drop x ws) (omega arith)) in
    ap₂ ◌++◌ front (ap₂ ◌++◌ kept (ap₂ ◌++◌ sum (ap (drop w) back ∙ drop-drop w x ws)))
    ∙ ap (λ l. take x ws ++ l) (sym (append_assoc (take i later) (zip_with bit_xor (drop i later) (drop i sooner)) (drop (x + w) ws)))

-- what the tests of `add` tell
pub record CanAdd (w n c t s : ℕ) : Type 0 where
  pub before : s < t
  pub constant : t < c
  pub words : t * w + w ≤ n

pub can_add : (w n c t s : ℕ) → (ltb s t && (ltb t c && leb (t * w + w) n)) ≡ true → CanAdd w n c t s
can_add w n c t s e =
    let outer = (and-eq-true_iff (ltb s t) (ltb t c && leb (t * w + w) n)).0 e in
    let inner = (and-eq-true_iff (ltb t c) (leb (t * w + w) n)).0 outer.1 in
    record { before = ltb-true s t outer.0; constant = ltb-true t c inner.0; words = leb-true (t * w + w) n inner.1 }
