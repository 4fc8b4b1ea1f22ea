-- The refusals of what is lent, for every call that has them: none is a report, where none is given none applies, and what a call answers
-- in each of the two cases.
-- Assumes nothing.
use Prim.Native.Nat.{ℕ, ◌≤◌}
use native.Mathlib.Omega.{arith}
use mathlib.Core.Path.{◌≡◌, refl, ap}
use mathlib.Core.List.{List}
use mathlib.Core.Option.{Option, none, some}
use lib.ListN.{length}
use borrow.Author.Tests.{eq-eqb, le-leb, le-ltb}
use Rattle.lustre.specs.Names.{bad-name, names_of}
use Rattle.lustre.specs.Records.{bad-record}
use Rattle.lustre.specs.Answer.{number-and-place, refusal-of, bad-sizes, short-work, project-records, no-project, too-deep-at, refuse, lowest, unless-refused}
use Rattle.lustre.specs.declared.Answer.{Answer}
use Rattle.lustre.specs.declared.Answer.TheVariants.{Refused}
use Rattle.lustre.specs.declared.Refusal.{Refusal}
use Rattle.lustre.specs.declared.Refusal.TheVariants.{Sizes, ShortWork, BadName, BadKind, BadWord, NoProject, TooDeep}

-- no refusal has number 0
pub refusal-above : (r : Refusal) → (number-and-place r).0 ≡ 0 → ⊥
refusal-above Sizes e = omega arith
refusal-above (ShortWork at) e = omega arith
refusal-above (BadName at) e = omega arith
refusal-above (BadKind at) e = omega arith
refusal-above (BadWord at) e = omega arith
refusal-above (NoProject at) e = omega arith
refusal-above (TooDeep at) e = omega arith

module _ {A : Type 0} (refused : Refusal → A) (own : A) where
  -- where nothing is refused a call gives its own answer
  pub unless-none : (o : Option Refusal) → o ≡ none → unless-refused o refused own ≡ own
  unfolding unless-refused
  unless-none o e = ap (λ (p : Option Refusal). unless-refused p refused own) e

  -- and else the refusal
  pub unless-some : (o : Option Refusal) (r : Refusal) → o ≡ some r → unless-refused o refused own ≡ refused r
  unfolding unless-refused
  unless-some o r e = ap (λ (p : Option Refusal). unless-refused p refused own) e

-- an answer of number 0 is given where nothing is refused
pub reports : (o : Option Refusal) (own : Answer) → refusal-of (unless-refused o Refused own) ≡ 0 → (o ≡ none) × (unless-refused o Refused own ≡ own)
unfolding unless-refused
reports none own e = (refl, refl)
reports (some r) own e = absurd (refusal-above r e)

-- sizes in order pass refusal 1
pub sizes-pass : (kinds words text : List ℕ) → length kinds ≡ length words → length kinds ≤ 4096 → length text ≤ 16384 → bad-sizes kinds words text ≡ none
unfolding bad-sizes
sizes-pass kinds words text e f g = rw (eq-eqb (length kinds) (length words) e, le-leb (length kinds) 4096 f, le-leb (length text) 16384 g)

-- enough work memory passes refusal 2
pub work-passes : (work : ℕ) → 4096 ≤ work → short-work work ≡ none
unfolding short-work
work-passes work w = rw (le-ltb work 4096 w)

-- where nothing is refused, none of the six applies
module _ (kinds words text : List ℕ) (work : ℕ) where
  pub record Passes : Type 0 where
    pub sizes : bad-sizes kinds words text ≡ none
    pub enough : short-work work ≡ none
    pub named : bad-name text ≡ none
    pub ranged : bad-record (length (names_of text)) 0 kinds words ≡ none
    pub project : no-project (project-records kinds words text) ≡ none
    pub shallow : too-deep-at (project-records kinds words text) ≡ none

  -- a refusal that is not given applies nowhere, and the next is not given
  passed : (o : Option ℕ) (refusal : ℕ → Refusal) (next : Option Refusal) → refuse o refusal next ≡ none → (o ≡ none) × (next ≡ none)
  unfolding refuse
  passed none refusal next q = (refl, q)
  passed (some at) refusal next q = (cc, cc)

  pub passes : lowest kinds words text work ≡ none → Passes
  unfolding lowest
  passes q =
      let one = passed (bad-sizes kinds words text) _ _ q in
      let two = passed (short-work work) _ _ one.1 in
      let three = passed (bad-name text) _ _ two.1 in
      let four = passed (bad-record (length (names_of text)) 0 kinds words) _ _ three.1 in
      let five = passed (no-project (project-records kinds words text)) _ _ four.1 in
      let six = passed (too-deep-at (project-records kinds words text)) _ _ five.1 in
      record { sizes = one.0; enough = two.0; named = three.0; ranged = four.0; project = five.0; shallow = six.0 }
