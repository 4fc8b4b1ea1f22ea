-- The count of a text's zero bytes, byte by byte.
-- Assumes nothing.
use Rattle.std.proofs.Common.{◌≡◌, ℕ, suc, ◌+◌, ◌<◌, ◌≤◌, true, false, eqb, List, ◌∷◌, length, get_or, drop, eq-eqb, ne_eqb, add-one, arith}
use Rattle.std.proofs.Math.Seq.{drop-cons}
use Rattle.std.proofs.lemmas.List.{drop_all}
use Rattle.names.specs.Scan.{zeros}

zeros_here : (b : ℕ) (bs : List ℕ) → eqb b 0 ≡ true → zeros (b ∷ bs) ≡ suc (zeros bs)
unfolding zeros
zeros_here b bs e = rw (zeros, e)

zeros_behind : (b : ℕ) (bs : List ℕ) → eqb b 0 ≡ false → zeros (b ∷ bs) ≡ zeros bs
unfolding zeros
zeros_behind b bs e = rw (zeros, e)

-- of the first i bytes n are zero
pub record Counted (bytes : List ℕ) (i n : ℕ) : Type 0 where
  pub few : n ≤ i
  pub left : n + zeros (drop i bytes) ≡ zeros bytes

module _ (bytes : List ℕ) (i n : ℕ) (c : Counted bytes i n) where
  pub counted_zero : i < length bytes → get_or bytes i 0 ≡ 0 → Counted bytes (i + 1) (n + 1)
  counted_zero l e =
      let h : zeros (drop i bytes) ≡ suc (zeros (drop (suc i) bytes)) = rw (drop-cons bytes i 0) (zeros_here _ _ (eq-eqb _ 0 e)) in
      record {
        few = omega (arith, c.few);
        left = rw (add-one i) (omega (arith, c.left, h));
      }

  pub counted_other : i < length bytes → (get_or bytes i 0 ≡ 0 → ⊥) → Counted bytes (i + 1) n
  counted_other l e =
      let h : zeros (drop i bytes) ≡ zeros (drop (suc i) bytes) = rw (drop-cons bytes i 0) (zeros_behind _ _ (ne_eqb _ 0 e)) in
      record {
        few = omega (arith, c.few);
        left = rw (add-one i) (omega (arith, c.left, h));
      }

  pub counted_all : length bytes ≤ i → n ≡ zeros bytes
  unfolding zeros
  counted_all l =
      let h : zeros (drop i bytes) ≡ 0 = rw (drop_all i bytes l, zeros) in
      omega (arith, c.left, h)
