-- What `split` and `split_inclusive` at zero bytes give, as the pieces of a text.
-- Assumes nothing.
use Rattle.std.proofs.Common.{◌≡◌, ℕ, zero, suc, ◌-◌, ◌<◌, Bool, true, false, eqb, List, [], ◌∷◌, ◌++◌, get_or, Some, None, Option, refl, ap, arith}
use mathlib.Core.List.{map}
use Rattle.std.specs.Borrow.{Bor}
use Rattle.std.specs.List.{slice_split, onto_first, slice_get}
use Rattle.std.specs.Option.{unwrap_or, option_map}
use Rattle.std.proofs.lemmas.Option.{unwrap_or-slice_get}
use Rattle.lustre.specs.Names.{Piece, longer, split, names_of, name_at}
use Rattle.names.specs.Scan.{zeros}

-- a byte more in front of the first part
first_longer : (b : ℕ) (xs : List (List ℕ)) → get_or (onto_first b xs) 0 [] ≡ b ∷ get_or xs 0 []
first_longer b [] = refl
first_longer b (x ∷ xs) = refl

others_same : (b : ℕ) (xs : List (List ℕ)) (n : ℕ) → get_or (onto_first b xs) (suc n) [] ≡ get_or xs (suc n) []
others_same b [] n = refl
others_same b (x ∷ xs) n = refl

names_longer : (b : ℕ) (ps : List Piece) → map (λ p. p.bytes) (longer b ps) ≡ onto_first b (map (λ p. p.bytes) ps)
unfolding longer
names_longer b [] = refl
names_longer b (p ∷ ps) = refl

-- the parts are the names, and behind the last closed one an empty text
part_is_name : (text : List ℕ) (n : ℕ) → get_or (slice_split (λ b. eqb b 0) text) n [] ≡ name_at (names_of text) n
unfolding names_of split
part_is_name [] zero = refl
part_is_name [] (suc n) = refl
part_is_name (b ∷ bs) n = go (eqb b 0) refl n (part_is_name bs)
  where
    go : (t : Bool) → eqb b 0 ≡ t → (n : ℕ) → ((m : ℕ) → get_or (slice_split (λ b. eqb b 0) bs) m [] ≡ name_at (names_of bs) m) → get_or (slice_split (λ b. eqb b 0) (b ∷ bs)) n [] ≡ name_at (names_of (b ∷ bs)) n
    go true e zero h = rw (e, names_of, split)
    go true e (suc m) h = rw (e, names_of, split) (h m)
    go false e zero h = rw (e, names_of, split, names_longer) (simp first_longer (ap (λ s. b ∷ s) (h 0)))
    go false e (suc m) h = rw (e, names_of, split, names_longer) (simp others_same (h (suc m)))

now_unwrapped : (r : Option (Bor (List ℕ))) (d : Bor (List ℕ)) → (unwrap_or r d).now ≡ unwrap_or (option_map (λ x. x.now) r) d.now
now_unwrapped None d = refl
now_unwrapped (Some x) d = refl

-- so `nth` and `unwrap_or` give the name
pub nth_is_name : (text : List ℕ) (n : ℕ) (r : Option (Bor (List ℕ))) (x d : Bor (List ℕ)) → x ≡ unwrap_or r d → d.now ≡ [] → option_map (λ x. x.now) r ≡ slice_get (slice_split (λ b. eqb b 0) text) n → x.now ≡ name_at (names_of text) n
nth_is_name text n r x d u e h = rw (u, now_unwrapped, e, h, unwrap_or-slice_get) (part_is_name text n)

-- where a front of the text closes fewer than n names, name n stands behind it, under a number less by those
pub name_behind : (front back : List ℕ) (n : ℕ) → zeros front < n → name_at (names_of (front ++ back)) n ≡ name_at (names_of back) (n - zeros front)
unfolding names_of split zeros
name_behind [] back n l = let e : n - 0 ≡ n = omega arith in rw (zeros, e)
name_behind (b ∷ bs) back zero l = absurd (omega arith)
name_behind (b ∷ bs) back (suc n) l = go (eqb b 0) refl (name_behind bs back)
  where
    go : (t : Bool) → eqb b 0 ≡ t → ((m : ℕ) → zeros bs < m → name_at (names_of (bs ++ back)) m ≡ name_at (names_of back) (m - zeros bs)) → name_at (names_of (b ∷ (bs ++ back))) (suc n) ≡ name_at (names_of back) (suc n - zeros (b ∷ bs))
    go true e h =
        let k : zeros bs < n = (let m = rw (zeros, e) at l in omega arith) in
        let d : suc n - suc (zeros bs) ≡ n - zeros bs = omega arith in
        rw (e, names_of, split, zeros, d) (h n k)
    go false e h =
        let k : zeros bs < suc n = rw (zeros, e) at l in
        rw (e, names_of, split, names_longer, zeros) (simp others_same (h (suc n) k))
