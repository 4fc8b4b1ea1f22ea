-- The clauses of the definition's `scan` and `starts`, in one form for both (`Going`), and how looks add up.
-- Assumes nothing.
use Prim.Native.Nat.{ℕ, ◌+◌}
use native.Mathlib.Nat.{zero-add, add_assoc}
use mathlib.Core.Path.{◌≡◌, refl, sym, ap}
use mathlib.Core.Bool.{Bool, true, false, true≢false}
use mathlib.Core.List.{List, [], ◌∷◌}
use Rattle.lustre.specs.Name.{mem}
use Rattle.lustre.specs.Walk.{Search, found, clear, more, after, closing, scan, starts}

pub more_none : {A : Type 0} (o : Search A) → more 0 o ≡ o
unfolding more
more_none (found c n) = ap (found c) (zero-add n)
more_none (clear cl n) = ap (clear cl) (zero-add n)

pub more_more : {A : Type 0} (j k : ℕ) (o : Search A) → more j (more k o) ≡ more (j + k) o
unfolding more
more_more j k (found c n) = ap (found c) (sym (add_assoc j k n))
more_more j k (clear cl n) = ap (clear cl) (sym (add_assoc j k n))

module _ {A : Type 0} (eq : A → A → Bool) (rec : List A → A → List A → Search A) where
  -- `go` goes through a list of names behind the path, with k looks a name, and enters by `rec`
  pub record Going (path : List A) (k : ℕ) (go : List A → List A → Search A) : Type 0 where
    pub ends : (cl : List A) → go [] cl ≡ clear cl 0
    pub loop : (s : A) (ss cl : List A) → mem eq s path ≡ true → go (s ∷ ss) cl ≡ found (closing eq s path) k
    pub skip : (s : A) (ss cl : List A) → mem eq s path ≡ false → mem eq s cl ≡ true → go (s ∷ ss) cl ≡ more k (go ss cl)
    pub entry : (s : A) (ss cl : List A) → mem eq s path ≡ false → mem eq s cl ≡ false → go (s ∷ ss) cl ≡ more k (after (rec path s cl) (λ cl'. go ss (s ∷ cl')))

  pub scan_going : (path : List A) → Going path 1 (scan eq rec path)
  unfolding scan
  scan_going path = record { ends = λ cl. refl; loop = λ s ss cl e. rw (e, scan); skip = λ s ss cl e i. rw (e, i, scan); entry = λ s ss cl e i. rw (e, i, scan) }

  pub starts_going : Going [] 0 (starts eq rec)
  unfolding starts mem
  starts_going = record {
    ends = λ cl. refl;
    loop = λ s ss cl e. absurd (true≢false (sym e));
    skip = λ s ss cl e i. rw (i, starts) (sym (more_none (starts eq rec ss cl)));
    entry = λ s ss cl e i. rw (i, starts) (sym (more_none (after (rec [] s cl) (λ cl'. starts eq rec ss (s ∷ cl')))));
  }
