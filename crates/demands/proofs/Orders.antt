-- Byte order: `_is_` is a test of equality, `order` is a strict order, and `set_of` gives the members of its list in that order, none
-- twice. Assumes nothing.
use Prim.Native.Nat.compare
use Prim.Native.Nat.{ℕ, zero, suc, ◌<◌, compare, Ordering}
use native.Mathlib.Omega.{arith}
use mathlib.Core.Path.{◌≡◌, refl, sym, ◌∙◌, ap, subst}
use mathlib.Core.Logic.{◌⊎◌, inl, inr, ⊎_elim}
use mathlib.Core.Bool.{true, false≢true}
use mathlib.Core.List.Memᴰ
use mathlib.Core.List.{List, [], ◌∷◌, Memᴰ}
use lib.Dec.{compare_is_eq}
use Rattle.lustre.specs.Name.{Name, order, ◌is◌, into_set, set_of}
use Rattle.demands.specs.Loops.{Distinct}
use Rattle.demands.proofs.Sets.{Test}

-- what a comparison of numbers says
abbrev pub Compared : Ordering → ℕ → ℕ → Type 0
Compared Ordering.lt x y = x < y
Compared Ordering.eq x y = x ≡ y
Compared Ordering.gt x y = y < x

compared : (x y : ℕ) (o : Ordering) → compare x y ≡ o → Compared o x y
compared zero zero o e = subst (λ (p : Ordering). Compared p 0 0) (sym compare.zero-zero ∙ e) refl
compared zero (suc y) o e = subst (λ (p : Ordering). Compared p 0 (suc y)) (sym (compare.zero-suc y) ∙ e) (omega arith)
compared (suc x) zero o e = subst (λ (p : Ordering). Compared p (suc x) 0) (sym (compare.suc-zero x) ∙ e) (omega arith)
compared (suc x) (suc y) o e = one_more o (compared x y o (sym (compare.suc-suc x y) ∙ e))
  where
    one_more : (o : Ordering) → Compared o x y → Compared o (suc x) (suc y)
    one_more Ordering.lt h = omega arith
    one_more Ordering.eq h = ap suc h
    one_more Ordering.gt h = omega arith

-- of the three only one holds
pub compare_is : (x y : ℕ) (o : Ordering) → Compared o x y → compare x y ≡ o
compare_is x y o h = go o (compare x y) h (compared x y (compare x y) refl)
  where
    go : (o p : Ordering) → Compared o x y → Compared p x y → p ≡ o
    go Ordering.lt Ordering.lt h k = refl
    go Ordering.lt Ordering.eq h k = absurd (omega arith)
    go Ordering.lt Ordering.gt h k = absurd (omega arith)
    go Ordering.eq Ordering.lt h k = absurd (omega arith)
    go Ordering.eq Ordering.eq h k = refl
    go Ordering.eq Ordering.gt h k = absurd (omega arith)
    go Ordering.gt Ordering.lt h k = absurd (omega arith)
    go Ordering.gt Ordering.eq h k = absurd (omega arith)
    go Ordering.gt Ordering.gt h k = refl

-- the right-hand side of `order` at two first bytes that compare so
abbrev by_first : Name → Name → Ordering → Ordering
by_first xs ys o = elim o [ Ordering.lt ↦ Ordering.lt | Ordering.eq ↦ order xs ys | Ordering.gt ↦ Ordering.gt ]

gt_is_not_lt : Ordering.gt ≡ Ordering.lt → ⊥
gt_is_not_lt e = let z : ◌≡◌ {A = ℕ} 0 1 = cc in omega arith

-- a name is before another if its first byte is the less, or the first bytes are the same and the rest is before the rest
module _ (x : ℕ) (xs : Name) (y : ℕ) (ys : Name) where
  before_cases : order (x ∷ xs) (y ∷ ys) ≡ Ordering.lt → (x < y) ⊎ ((x ≡ y) × (order xs ys ≡ Ordering.lt))
  unfolding order
  before_cases h = go (compare x y) refl h
    where
      go : (o : Ordering) → compare x y ≡ o → by_first xs ys o ≡ Ordering.lt → (x < y) ⊎ ((x ≡ y) × (order xs ys ≡ Ordering.lt))
      go Ordering.lt c h = inl (compared x y Ordering.lt c)
      go Ordering.eq c h = inr (compared x y Ordering.eq c, h)
      go Ordering.gt c h = absurd (gt_is_not_lt h)

  before_first : x < y → order (x ∷ xs) (y ∷ ys) ≡ Ordering.lt
  unfolding order
  before_first h = rw (compare_is x y Ordering.lt h, order)

  before_second : x ≡ y → order xs ys ≡ Ordering.lt → order (x ∷ xs) (y ∷ ys) ≡ Ordering.lt
  unfolding order
  before_second e h = rw (compare_is x y Ordering.eq e, order) h

pub order_trans : (a b c : Name) → order a b ≡ Ordering.lt → order b c ≡ Ordering.lt → order a c ≡ Ordering.lt
unfolding order
order_trans [] [] c h k = k
order_trans [] (y ∷ ys) [] h k = absurd (gt_is_not_lt k)
order_trans [] (y ∷ ys) (z ∷ zs) h k = refl
order_trans (x ∷ xs) [] c h k = absurd (gt_is_not_lt h)
order_trans (x ∷ xs) (y ∷ ys) [] h k = absurd (gt_is_not_lt k)
order_trans (x ∷ xs) (y ∷ ys) (z ∷ zs) h k = go (before_cases x xs y ys h) (before_cases y ys z zs k) (order_trans xs ys zs)
  where
    go : (x < y) ⊎ ((x ≡ y) × (order xs ys ≡ Ordering.lt)) → (y < z) ⊎ ((y ≡ z) × (order ys zs ≡ Ordering.lt)) → (order xs ys ≡ Ordering.lt → order ys zs ≡ Ordering.lt → order xs zs ≡ Ordering.lt) → order (x ∷ xs) (z ∷ zs) ≡ Ordering.lt
    go (inl p) (inl q) ih = before_first x xs z zs (omega arith)
    go (inl p) (inr q) ih = before_first x xs z zs (omega (arith, q.0))
    go (inr p) (inl q) ih = before_first x xs z zs (omega (arith, p.0))
    go (inr p) (inr q) ih = before_second x xs z zs (p.0 ∙ q.0) (ih p.1 q.1)

pub order_self : (a : Name) → order a a ≡ Ordering.eq
unfolding order
order_self [] = refl
order_self (x ∷ xs) = rw (compare_is x x Ordering.eq refl, order) (order_self xs)

pub order_same : (a b : Name) → order a b ≡ Ordering.eq → a ≡ b
unfolding order
order_same [] [] h = refl
order_same [] (y ∷ ys) h = absurd (false≢true (ap compare_is_eq h))
order_same (x ∷ xs) [] h = absurd (false≢true (ap compare_is_eq h))
order_same (x ∷ xs) (y ∷ ys) h = go (compare x y) refl h (order_same xs ys)
  where
    go : (o : Ordering) → compare x y ≡ o → by_first xs ys o ≡ Ordering.eq → (order xs ys ≡ Ordering.eq → xs ≡ ys) → x ∷ xs ≡ y ∷ ys
    go Ordering.lt c h ih = absurd (false≢true (ap compare_is_eq h))
    go Ordering.eq c h ih = let p : x ≡ y = compared x y Ordering.eq c in let q = ih h in cc
    go Ordering.gt c h ih = absurd (false≢true (ap compare_is_eq h))

-- the other way round
abbrev pub turned : Ordering → Ordering
turned Ordering.lt = Ordering.gt
turned Ordering.eq = Ordering.eq
turned Ordering.gt = Ordering.lt

pub order_turned : (a b : Name) → order b a ≡ turned (order a b)
unfolding order
order_turned [] [] = refl
order_turned [] (y ∷ ys) = refl
order_turned (x ∷ xs) [] = refl
order_turned (x ∷ xs) (y ∷ ys) = go (compare x y) refl (order_turned xs ys)
  where
    go : (o : Ordering) → compare x y ≡ o → order ys xs ≡ turned (order xs ys)
        → order (y ∷ ys) (x ∷ xs) ≡ turned (by_first xs ys o)
    go Ordering.lt c ih = rw (compare_is y x Ordering.gt (compared x y Ordering.lt c), order)
    go Ordering.eq c ih = rw (compare_is y x Ordering.eq (sym (compared x y Ordering.eq c)), order) ih
    go Ordering.gt c ih = rw (compare_is y x Ordering.lt (compared x y Ordering.gt c), order)

-- no name is before itself
pub not_before_itself : (a : Name) → order a a ≡ Ordering.lt → ⊥
not_before_itself a h = false≢true (ap compare_is_eq (sym h ∙ order_self a))

is_same : (a b : Name) → (a is b) ≡ true → a ≡ b
unfolding ◌is◌
is_same a b h = go (order a b) refl h
  where
    go : (o : Ordering) → order a b ≡ o → compare_is_eq o ≡ true → a ≡ b
    go Ordering.lt e h = absurd (false≢true h)
    go Ordering.eq e h = order_same a b e
    go Ordering.gt e h = absurd (false≢true h)

is_self : (a : Name) → (a is a) ≡ true
unfolding ◌is◌
is_self a = ap compare_is_eq (order_self a)

pub is_test : Test ◌is◌
is_test = record { same = is_same; self = is_self }

-- each name before all that follow it
unfoldable pub Rising : List Name → Type 0
Rising [] = Unit {0}
Rising (a ∷ l) = ((b : Name) → Memᴰ b l → order a b ≡ Ordering.lt) × Rising l

rising_distinct : (l : List Name) → Rising l → Distinct l
unfolding Rising Distinct
rising_distinct [] r = tt
rising_distinct (a ∷ l) r = (λ m. not_before_itself a (r.0 a m), rising_distinct l r.1)

-- the right-hand side of `into_set` at two names that compare so
abbrev placed : Name → Name → List Name → Ordering → List Name
placed a b l o = elim o [ Ordering.lt ↦ a ∷ b ∷ l | Ordering.eq ↦ b ∷ l | Ordering.gt ↦ b ∷ into_set a l ]

-- the members after a name went in
into_cases : (x a : Name) (l : List Name) → Memᴰ x (into_set a l) → (x ≡ a) ⊎ Memᴰ x l
unfolding into_set
into_cases x a [] m = inl (Memᴰ.eq_of_singleton m)
into_cases x a (b ∷ l) m = go (order a b) m (into_cases x a l)
  where
    go : (o : Ordering) → Memᴰ x (placed a b l o) → (Memᴰ x (into_set a l) → (x ≡ a) ⊎ Memᴰ x l) → (x ≡ a) ⊎ Memᴰ x (b ∷ l)
    go Ordering.lt m ih = Memᴰ.cases_cons m
    go Ordering.eq m ih = inr m
    go Ordering.gt m ih = ⊎_elim (λ e. inr (Memᴰ.head e)) (λ n. ⊎_elim (λ e. inl e) (λ k. inr (Memᴰ.tail k)) (ih n)) (Memᴰ.cases_cons m)

into_in : (x a : Name) (l : List Name) → Memᴰ x (a ∷ l) → Memᴰ x (into_set a l)
unfolding into_set
into_in x a [] m = m
into_in x a (b ∷ l) m = go (order a b) refl (Memᴰ.cases_cons m) (into_in x a l)
  where
    go : (o : Ordering) → order a b ≡ o → (x ≡ a) ⊎ Memᴰ x (b ∷ l) → (Memᴰ x (a ∷ l) → Memᴰ x (into_set a l)) → Memᴰ x (placed a b l o)
    go Ordering.lt e c ih = m
    go Ordering.eq e (inl q) ih = Memᴰ.head (q ∙ order_same a b e)
    go Ordering.eq e (inr n) ih = n
    go Ordering.gt e (inl q) ih = Memᴰ.tail (ih (Memᴰ.head q))
    go Ordering.gt e (inr n) ih = ⊎_elim (λ q. Memᴰ.head q) (λ k. Memᴰ.tail (ih (Memᴰ.tail k))) (Memᴰ.cases_cons n)

-- a set has the members of its list
pub set_in : (x : Name) (l : List Name) → Memᴰ x (set_of l) → Memᴰ x l
unfolding set_of
set_in x [] m = m
set_in x (a ∷ l) m = ⊎_elim (λ e. Memᴰ.head e) (λ n. Memᴰ.tail (set_in x l n)) (into_cases x a (set_of l) m)

pub in_set : (x : Name) (l : List Name) → Memᴰ x l → Memᴰ x (set_of l)
unfolding set_of
in_set x [] m = m
in_set x (a ∷ l) m = into_in x a (set_of l) (⊎_elim (λ e. Memᴰ.head e) (λ n. Memᴰ.tail (in_set x l n)) (Memᴰ.cases_cons m))

into_rising : (a : Name) (l : List Name) → Rising l → Rising (into_set a l)
unfolding Rising into_set
into_rising a [] r = (λ b m. absurd (Memᴰ.not-nil m), tt)
into_rising a (b ∷ l) r = go (order a b) refl (into_rising a l r.1)
  where
    go : (o : Ordering) → order a b ≡ o → Rising (into_set a l) → Rising (placed a b l o)
    go Ordering.lt e ih = (λ x m. ⊎_elim (λ q. rw q e) (λ n. order_trans a b x e (r.0 x n)) (Memᴰ.cases_cons m), r)
    go Ordering.eq e ih = r
    go Ordering.gt e ih = (λ x m. ⊎_elim (λ q. rw q (order_turned a b ∙ ap turned e)) (λ n. r.0 x n) (into_cases x a l m), ih)

pub set_rising : (l : List Name) → Rising (set_of l)
unfolding set_of Rising
set_rising [] = tt
set_rising (a ∷ l) = into_rising a (set_of l) (set_rising l)

pub set_distinct : (l : List Name) → Distinct (set_of l)
set_distinct l = rising_distinct (set_of l) (set_rising l)
