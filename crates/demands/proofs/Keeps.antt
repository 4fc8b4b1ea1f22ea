-- What `keep` keeps of lists made of others, and lists of which it keeps nothing.
-- Assumes nothing.
use Rattle.std.specs.Prelude.{if◌then◌else◌}
use mathlib.Core.Path.{◌≡◌, refl, ap}
use mathlib.Core.Bool.{Bool, true, false}
use mathlib.Core.List.{List, [], ◌∷◌, ◌++◌, map, append-nil, cons≢nil}
use Rattle.demands.specs.Nodes.{keep}

pub keep_append : {A : Type 0} (f : A → Bool) (xs ys : List A) → keep f (xs ++ ys) ≡ keep f xs ++ keep f ys
keep_append f [] ys = refl
keep_append f (x ∷ xs) ys = go (f x) (keep_append f xs ys)
  where
    go : (b : Bool) → keep f (xs ++ ys) ≡ keep f xs ++ keep f ys → (if b then x ∷ keep f (xs ++ ys) else keep f (xs ++ ys)) ≡ (if b then x ∷ keep f xs else keep f xs) ++ keep f ys
    go true e = ap (λ r. x ∷ r) e
    go false e = e

-- of an image, those whose test agrees with h on the originals are the image of those with h
pub keep_map : {A B : Type 0} (f : B → Bool) (g : A → B) (h : A → Bool) → ((x : A) → f (g x) ≡ h x) → (xs : List A) → keep f (map g xs) ≡ map g (keep h xs)
keep_map f g h e [] = refl
keep_map f g h e (x ∷ xs) = rw (e x) (go (h x) (keep_map f g h e xs))
  where
    go : (t : Bool) → keep f (map g xs) ≡ map g (keep h xs) → (if t then g x ∷ keep f (map g xs) else keep f (map g xs)) ≡ map g (if t then x ∷ keep h xs else keep h xs)
    go true k = ap (λ r. g x ∷ r) k
    go false k = k

-- of two tests either may come first
pub keep_swap : {A : Type 0} (f g : A → Bool) (xs : List A) → keep f (keep g xs) ≡ keep g (keep f xs)
keep_swap f g [] = refl
keep_swap f g (x ∷ xs) = go (f x) refl (g x) refl (keep_swap f g xs)
  where
    go : (s : Bool) → f x ≡ s → (t : Bool) → g x ≡ t → keep f (keep g xs) ≡ keep g (keep f xs)
        → keep f (if t then x ∷ keep g xs else keep g xs) ≡ keep g (if s then x ∷ keep f xs else keep f xs)
    go true a true b e = rw (a, b) (ap (λ r. x ∷ r) e)
    go true a false b e = rw b e
    go false a true b e = rw a e
    go false a false b e = e

-- nothing of the list is kept
pub record Lacks {A : Type 0} (f : A → Bool) (l : List A) : Type 0 where
  pub none_kept : keep f l ≡ []

module _ {A : Type 0} {f : A → Bool} where
  pub lacks_nil : Lacks f []
  lacks_nil = record { none_kept = refl }

  pub lacks_cons : {x : A} {l : List A} → f x ≡ false → Lacks f l → Lacks f (x ∷ l)
  lacks_cons e h = record { none_kept = rw e h.none_kept }

  pub lacks_one : {x : A} → f x ≡ false → Lacks f (x ∷ [])
  lacks_one e = lacks_cons e lacks_nil

  -- nothing is kept in front, or behind: the rest alone counts
  pub kept_behind : {a : List A} (b : List A) → Lacks f a → keep f (a ++ b) ≡ keep f b
  kept_behind b h = rw (keep_append, h.none_kept)

  pub kept_before : (a : List A) {b : List A} → Lacks f b → keep f (a ++ b) ≡ keep f a
  kept_before a h = rw (keep_append, h.none_kept, append-nil)

  infixl 65 ◌also◌
  pub ◌also◌ : {a b : List A} → Lacks f a → Lacks f b → Lacks f (a ++ b)
  ◌also◌ {b = b} h k = record { none_kept = rw (kept_behind b h) k.none_kept }

  pub lacks_if : (t : Bool) {a b : List A} → Lacks f a → Lacks f b → Lacks f (if t then a else b)
  lacks_if true h k = h
  lacks_if false h k = k

  pub one_if : (t : Bool) (x : A) → f x ≡ false → Lacks f (if t then x ∷ [] else [])
  one_if t x e = lacks_if t (lacks_one e) lacks_nil

  pub one_unless : (t : Bool) (x : A) → f x ≡ false → Lacks f (if t then [] else x ∷ [])
  one_unless t x e = lacks_if t lacks_nil (lacks_one e)

module _ {A : Type 0} (f : A → Bool) where
  pub lacks_map : {B : Type 0} (g : B → A) {l : List B} → Lacks (λ x. f (g x)) l → Lacks f (map g l)
  lacks_map g {l} h = record { none_kept = rw (keep_map f g (λ x. f (g x)) (λ x. refl) l, h.none_kept) }

  keep_twice : (g : A → Bool) (l : List A) → keep f l ≡ [] → keep f (keep g l) ≡ []
  keep_twice g [] h = refl
  keep_twice g (x ∷ l) h = go (f x) refl (g x) h (keep_twice g l)
    where
      go : (s : Bool) → f x ≡ s → (t : Bool) → (if s then x ∷ keep f l else keep f l) ≡ [] → (keep f l ≡ [] → keep f (keep g l) ≡ []) → keep f (if t then x ∷ keep g l else keep g l) ≡ []
      go true e t h ih = absurd (cons≢nil h)
      go false e true h ih = rw e (ih h)
      go false e false h ih = ih h

  -- the less is there, the less is kept
  pub lacks_kept : (g : A → Bool) {l : List A} → Lacks f l → Lacks f (keep g l)
  lacks_kept g {l} h = record { none_kept = keep_twice g l h.none_kept }
