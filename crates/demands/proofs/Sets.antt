-- Membership by a test of equality, and what is left of a list of names where some are taken: the lemmas that Graphs.antt and Search.antt
-- lean on. Assumes nothing.
use Prim.Native.Nat.{ℕ, ◌+◌, ◌≤◌, zero-le}
use native.Mathlib.Omega.{arith}
use mathlib.Core.Path.{◌≡◌, refl, sym, ◌∙◌, subst}
use mathlib.Core.Logic.{◌⊎◌, inl, inr, ⊎_elim}
use mathlib.Core.Bool.{Bool, true, false, true≢false}
use mathlib.Core.List.{List, [], ◌∷◌, ◌++◌, Memᴰ}
use Rattle.lustre.specs.Name.{mem}
use Rattle.lustre.specs.Walk.{from_first}

pub clash : {b : Bool} → b ≡ true → b ≡ false → ⊥
clash p q = true≢false (sym p ∙ q)

-- a name of a Boolean with its equation
pub split : (b : Bool) → (b ≡ true) ⊎ (b ≡ false)
split true = inl refl
split false = inr refl

-- a test that passes only absurdly
pub mustnt : (b : Bool) → (b ≡ true → ⊥) → b ≡ false
mustnt true h = absurd (h refl)
mustnt false h = refl

-- a test of equality that is one
pub record Test {A : Type 0} (eq : A → A → Bool) : Type 0 where
  pub same : (x y : A) → eq x y ≡ true → x ≡ y
  pub self : (x : A) → eq x x ≡ true

module _ {A : Type 0} (eq : A → A → Bool) where
  pub mem_eq : (x y : A) (l : List A) → eq x y ≡ true → mem eq x (y ∷ l) ≡ true
  unfolding mem
  mem_eq x y l e = rw (e, mem)

  pub mem_ne : (x y : A) (l : List A) → eq x y ≡ false → mem eq x (y ∷ l) ≡ mem eq x l
  unfolding mem
  mem_ne x y l e = rw (e, mem)

  pub mem_later : (x y : A) (l : List A) → mem eq x l ≡ true → mem eq x (y ∷ l) ≡ true
  mem_later x y l h = ⊎_elim (λ e. mem_eq x y l e) (λ e. mem_ne x y l e ∙ h) (split (eq x y))

  pub from_eq : (x y : A) (l : List A) → eq x y ≡ true → from_first eq x (y ∷ l) ≡ y ∷ l
  unfolding from_first
  from_eq x y l e = rw (e, from_first)

  pub from_ne : (x y : A) (l : List A) → eq x y ≡ false → from_first eq x (y ∷ l) ≡ from_first eq x l
  unfolding from_first
  from_ne x y l e = rw (e, from_first)

  -- two first names change places
  mem_swap : (x s y : A) (l : List A) → eq x y ≡ false → mem eq x (s ∷ l) ≡ mem eq x (s ∷ (y ∷ l))
  mem_swap x s y l e =
      ⊎_elim (λ q. mem_eq x s l q ∙ sym (mem_eq x s (y ∷ l) q)) (λ q. mem_ne x s l q ∙ sym (mem_ne x y l e) ∙ sym (mem_ne x s (y ∷ l) q)) (split (eq x s))

  pub mem_snoc : (x s : A) (l : List A) → mem eq x (l ++ (s ∷ [])) ≡ mem eq x (s ∷ l)
  mem_snoc x s [] = refl
  mem_snoc x s (y ∷ ys) =
      let ih : mem eq x (ys ++ (s ∷ [])) ≡ mem eq x (s ∷ ys) = mem_snoc x s ys in
      ⊎_elim
      (λ e. mem_eq x y (ys ++ (s ∷ [])) e ∙ sym (mem_later x s (y ∷ ys) (mem_eq x y ys e)))
      (λ e. mem_ne x y (ys ++ (s ∷ [])) e ∙ ih ∙ mem_swap x s y ys e)
      (split (eq x y))

  module _ (ok : Test eq) where
    pub mem_self : (x : A) (l : List A) → mem eq x (x ∷ l) ≡ true
    mem_self x l = mem_eq x x l (ok.self x)

    pub mem_cases : (x y : A) (l : List A) → mem eq x (y ∷ l) ≡ true → (x ≡ y) ⊎ (mem eq x l ≡ true)
    mem_cases x y l h = ⊎_elim (λ e. inl (ok.same x y e)) (λ e. inr (sym (mem_ne x y l e) ∙ h)) (split (eq x y))

-- membership by the test is membership
module _ {A : Type 0} (eq : A → A → Bool) (ok : Test eq) where
  pub mem_in : (x : A) (l : List A) → mem eq x l ≡ true → Memᴰ x l
  unfolding mem
  mem_in x [] h = absurd (true≢false (sym h))
  mem_in x (y ∷ l) h = ⊎_elim (λ e. Memᴰ.head e) (λ m. Memᴰ.tail (mem_in x l m)) (mem_cases eq ok x y l h)

  pub in_mem : {x : A} {l : List A} → Memᴰ x l → mem eq x l ≡ true
  in_mem {x} (Memᴰ.head {xs = l} e) = subst (λ (y : A). mem eq x (y ∷ l) ≡ true) e (mem_self eq ok x l)
  in_mem {x} (Memᴰ.tail {x = y} {xs = l} m) = mem_later eq x y l (in_mem m)

-- what is left: the weights of the names of u that are not taken
module _ {A : Type 0} where
  unfoldable pub left : (A → ℕ) → (A → Bool) → List A → ℕ
  left w b [] = 0
  left w b (x ∷ u) = elim (b x) [ true ↦ left w b u | false ↦ w x + left w b u ]

  module _ (w : A → ℕ) where
    left_taken : (b : A → Bool) (x : A) (u : List A) → b x ≡ true → left w b (x ∷ u) ≡ left w b u
    unfolding left
    left_taken b x u e = rw (e, left)

    left_free : (b : A → Bool) (x : A) (u : List A) → b x ≡ false → left w b (x ∷ u) ≡ w x + left w b u
    unfolding left
    left_free b x u e = rw (e, left)

    -- the more is taken, the less is left
    pub left_less : (b b' : A → Bool) → ((x : A) → b x ≡ true → b' x ≡ true) → (u : List A) → left w b' u ≤ left w b u
    unfolding left
    left_less b b' h [] = zero-le
    left_less b b' h (x ∷ u) =
        let ih : left w b' u ≤ left w b u = left_less b b' h u in
        ⊎_elim
        (λ e. omega (arith, left_taken b x u e, left_taken b' x u (h x e)))
        (λ e. ⊎_elim (λ q. omega (arith, left_free b x u e, left_taken b' x u q)) (λ q. omega (arith, left_free b x u e, left_free b' x u q)) (split (b' x)))
        (split (b x))

    module _ (eq : A → A → Bool) (ok : Test eq) where
      -- one more is taken: its weight is gone
      pub left_drop : (b b' : A → Bool) → ((x : A) → b x ≡ true → b' x ≡ true) → (s : A) → b s ≡ false → b' s ≡ true
          → (u : List A) → mem eq s u ≡ true → w s + left w b' u ≤ left w b u
      unfolding mem
      left_drop b b' h s free taken [] i = absurd (true≢false (sym i))
      left_drop b b' h s free taken (x ∷ u) i =
          ⊎_elim
          (λ e. omega (arith, subst (λ (y : A). left w b (y ∷ u) ≡ w s + left w b u) e (left_free b s u free), subst (λ (y : A). left w b' (y ∷ u) ≡ left w b' u) e (left_taken b' s u taken), left_less b b' h u))
          (λ m.
          let ih : w s + left w b' u ≤ left w b u = left_drop b b' h s free taken u m in
          ⊎_elim
          (λ e. omega (arith, left_taken b x u e, left_taken b' x u (h x e)))
          (λ e. ⊎_elim (λ q. omega (arith, left_free b x u e, left_taken b' x u q)) (λ q. omega (arith, left_free b x u e, left_free b' x u q)) (split (b' x)))
          (split (b x)))
          (mem_cases eq ok s x u i)
