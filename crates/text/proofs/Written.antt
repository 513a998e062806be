-- Texts written one after another are their concatenation written.
use Prim.Native.Nat.{ℕ, suc, ◌+◌, ◌-◌, ◌≤◌, min}
use mathlib.Core.Path.{◌≡◌, refl, sym, ap, subst, ◌∙◌}
use mathlib.Core.List.{List, [], ◌∷◌, ◌++◌}
use native.Mathlib.Nat.{add-suc, suc-add, add-zero}
use native.Mathlib.Decide.{dec_le}
use native.Mathlib.Omega.{arith}
use lib.ListN.{length, set, take, drop, length-append}
use lib.Seq.{sets, sets-eq, length-sets, set_out, drop-drop}
use Rattle.std.proofs.lemmas.List.{take-append-drop, length-take-le, drop_all, append_assoc}
use Rattle.text.specs.Text.{Wrote}

pub sets_append : (l : List ℕ) (i : ℕ) (s t : List ℕ) → sets l i (s ++ t) ≡ sets (sets l i s) (i + length s) t
sets_append l i [] t = ap (λ (j : ℕ). sets l j t) (sym (add-zero i))
sets_append l i (a ∷ s) t =
    sets_append (set l i a) (suc i) s t ∙ ap (λ (j : ℕ). sets (sets (set l i a) (suc i) s) j t) (suc-add i (length s) ∙ sym (add-suc i (length s)))

-- past the end nothing is written
sets_out : (l : List ℕ) (i : ℕ) (s : List ℕ) → length l ≤ i → sets l i s ≡ l
sets_out l i [] h = refl
sets_out l i (a ∷ s) h = ap (λ (m : List ℕ). sets m (suc i) s) (set_out l i a h) ∙ sets_out l (suc i) s (omega arith)

-- so a place past the end may be the end
sets_within : (l : List ℕ) (i : ℕ) (s : List ℕ) → sets l (min i (length l)) s ≡ sets l i s
sets_within l i s = by (dec_le (length l) i)
  where
    by : Dec (length l ≤ i) → sets l (min i (length l)) s ≡ sets l i s
    by (yes h) = sets_out l (min i (length l)) s (omega arith) ∙ sym (sets_out l i s h)
    by (no h) = ap (λ (j : ℕ). sets l j s) (omega arith)

pub wrote_length : {l m s : List ℕ} {p q : ℕ} → Wrote l p s m q → length m ≡ length l
wrote_length {l} {m} {s} {p} w = ap length w.bytes ∙ length-sets l p s

pub wrote_both : {l m n s t : List ℕ} {p q r : ℕ} → Wrote l p s m q → Wrote m q t n r → Wrote l p (s ++ t) n r
wrote_both {l} {m} {n} {s} {t} {p} {q} {r} v w = record {
  place = omega (arith, v.place, w.place, wrote_length v, length-append s t);
  bytes = w.bytes ∙ ap (λ (j : ℕ). sets m j t) (v.place ∙ ap (min (p + length s)) (sym (wrote_length v))) ∙ sets_within m (p + length s) t
      ∙ ap (λ (x : List ℕ). sets x (p + length s) t) v.bytes ∙ sym (sets_append l p s t);
}

pub wrote_is : {l m s t : List ℕ} {p q : ℕ} → s ≡ t → Wrote l p s m q → Wrote l p t m q
wrote_is {l} {m} {s} {t} {p} {q} e w = subst (λ (x : List ℕ). Wrote l p x m q) e w

-- a word, as far as there is room for it: its first bytes take the place of as many
pub wrote_cut : (l : List ℕ) (p : ℕ) (s : List ℕ) (fits n : ℕ) → p ≤ length l → fits ≡ min (length s) (length l - p) → n ≡ fits
    → Wrote l p s (take p l ++ (take fits s ++ drop n (drop p l))) (p + fits)
wrote_cut l p s fits n h e g = record {
  place = omega arith;
  bytes =
      ap (λ (t : List ℕ). take p l ++ (take fits s ++ t)) (drop-drop n p l ∙ ap (λ (k : ℕ). drop (p + k) l) (g ∙ sym whole))
      ∙ sym (append_assoc (take p l) (take fits s) (drop (p + length (take fits s)) l)) ∙ sym (sets-eq (take fits s) l p (omega (arith, whole)))
      ∙ sym (rest (dec_le (length s) fits)) ∙ sym (sets_append l p (take fits s) (drop fits s)) ∙ ap (sets l p) (take-append-drop fits s);
}
  where
    whole : length (take fits s) ≡ fits
    whole = length-take-le fits s (omega arith)

    rest : Dec (length s ≤ fits) → sets (sets l p (take fits s)) (p + length (take fits s)) (drop fits s) ≡ sets l p (take fits s)
    rest (yes k) = rw (drop_all fits s k)
    rest (no k) = sets_out (sets l p (take fits s)) (p + length (take fits s)) (drop fits s) (omega (arith, whole, length-sets l p (take fits s)))

-- with room for all of it
pub wrote_whole : (l s m : List ℕ) (p q : ℕ) → Wrote l p s m q → p + length s ≤ length l
    → (q ≡ p + length s) × (m ≡ take p l ++ s ++ drop (p + length s) l)
wrote_whole l s m p q w h = (omega (arith, w.place), w.bytes ∙ sets-eq s l p h)
