-- The numbers of two bytes which a list of bytes holds one after another.
use Rattle.std.proofs.Common.{◌≡◌, ℕ, zero, suc, ◌+◌, ◌*◌, ◌/◌, ◌<◌, List, [], length, take, drop, refl, ap, ap₂, ◌∙◌, arith}
use lib.ListN.{get_or}
use Rattle.std.specs.Simd.{first_chunks}
use Rattle.std.proofs.lemmas.List.{drop-drop, get_or-drop, get_or-take}
use Rattle.format.specs.Bytes.{short_at}
use Rattle.format.specs.Format.{atom_at}

-- one of the first k pairs
pair_at : (k i : ℕ) (bytes : List ℕ) → i < k → get_or (first_chunks 2 k bytes) i [] ≡ take 2 (drop (i * 2) bytes)
pair_at zero i bytes h = absurd (omega arith)
pair_at (suc k) zero bytes h = refl
pair_at (suc k) (suc i) bytes h =
    pair_at k i (drop 2 bytes) (omega arith) ∙ ap (take 2) (drop-drop (i * 2) 2 bytes ∙ ap (λ n. drop n bytes) (omega arith))

-- the atom that such a pair is
pub pair_atom : (file : List ℕ) (o i : ℕ) → i < length (drop (o + 5) file) / 2
    → (let pair = get_or (first_chunks 2 (length (drop (o + 5) file) / 2) (drop (o + 5) file)) i [] in get_or pair 0 0 + get_or pair 1 0 * 256) ≡ atom_at file o i
unfolding short_at
pair_atom file o i h =
    let rest = drop (o + 5) file in
    let byte : (j n : ℕ) → j < 2 → o + 5 + (i * 2 + j) ≡ n → get_or (get_or (first_chunks 2 (length rest / 2) rest) i []) j 0 ≡ get_or file n 0 =
    λ j n below at.
    ap (λ pair. get_or pair j 0) (pair_at _ i rest h) ∙ get_or-take 2 (drop (i * 2) rest) j 0 below ∙ get_or-drop (i * 2) rest j 0
    ∙ get_or-drop (o + 5) file (i * 2 + j) 0 ∙ ap (λ n. get_or file n 0) at in
    ap₂ (λ low high. low + high * 256) (byte 0 _ (omega arith) (omega arith)) (byte 1 _ (omega arith) (omega arith))
