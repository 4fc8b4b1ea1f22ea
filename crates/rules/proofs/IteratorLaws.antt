-- Iterators: what is kept of one array more, and the tests on a function's inputs and output.
-- Assumes nothing.
use Prim.Native.Nat.{ℕ}
use native.Mathlib.Omega.{arith}
use mathlib.Core.Path.{◌≡◌, refl, sym, ◌∙◌}
use mathlib.Core.Bool.{true, false, ◌&&◌, and-true, and_assoc}
use mathlib.Core.List.{List, [], ◌∷◌, ◌++◌}
use mathlib.Core.Logic.{⊎_elim}
use lib.Dec.{eqb}
use lib.ListN.{length, drop}
use borrow.Author.Tests.{eq-eqb}
use Rattle.std.specs.Prelude as code
use Rattle.std.specs.Prelude.{Some, None, MatchOption, IsSomeAnd, unwrap_or}
use Rattle.lustre.specs.Types.{Ty, same_type}
use Rattle.lustre.specs.Project.{Port, NodeKind, Function, Operator, Imported, is_function}
use Rattle.lustre.specs.Grammar.{node_kind}
use Rattle.lustre.specs.Line.{Note, plain, return, fail, require}
use Rattle.lustre.specs.Resolve.{Scope, resolve, compatible}
use Rattle.lustre.specs.Infer.{agrees, one_output, two_inputs, all_long, same_lengths, first_length, inputs_agree, seed_agrees, element_rule}
use Rattle.demands.proofs.Sets.{split}
use Rattle.types.specs.Value.{Naming, asTy}
use Rattle.types.specs.Number.{asHint}
use Rattle.types.specs.declared.Typ.{Typ}
use Rattle.types.proofs.Values.{type_same}
use Rattle.rules.specs.Flags.{First, Flags, Beside, type_fits}
use Rattle.rules.specs.declared.iterators.Array.{Array}
use Rattle.rules.specs.declared.iterators.Kept.{Kept}

-- ---- what is kept

-- types agree either way round
agrees_swap : (Γ : Scope) (a b : Ty) → agrees Γ a b ≡ agrees Γ b a
unfolding compatible
agrees_swap Γ a b = go (resolve Γ.alias a) (resolve Γ.alias b)
  where
    go : (s t : Ty) → same_type s t ≡ same_type t s
    go s t = ⊎_elim (λ e. rw (type_same s t e) refl) (λ e. ⊎_elim (λ f. rw (type_same t s f) refl) (λ f. e ∙ sym f) (split (same_type t s))) (split (same_type s t))

-- no array yet
pub none_agree : (Γ : Scope) (ps : List Port) → inputs_agree Γ ps [] ≡ true
unfolding inputs_agree
none_agree Γ [] = refl
none_agree Γ (p ∷ ps) = refl

-- the length of the first
pub first_kept : (ρ : Naming) (ds : List (ℕ × Ty)) (a : code.Option Array) → First ρ ds a → MatchOption a (0 ≡ first_length ds) (λ f. f.len ≡ first_length ds)
unfolding first_length
first_kept ρ [] a f = rw f refl
first_kept ρ (d ∷ ds) None f = absurd f
first_kept ρ (d ∷ ds) (Some x) f = f.0

long_more : (n : ℕ) (ds : List (ℕ × Ty)) (x : ℕ × Ty) → all_long n (ds ++ (x ∷ [])) ≡ (all_long n ds && eqb x.0 n)
unfolding all_long
long_more n [] x = and-true (eqb x.0 n)
long_more n (d ∷ ds) x = rw (long_more n ds x) (sym (and_assoc (eqb d.0 n) (all_long n ds) (eqb x.0 n)))

module _ (Γ : Scope) (ρ : Naming) where
  agree_more : (ps : List Port) (ds : List (ℕ × Ty)) (x : ℕ × Ty) (w : code.Option Typ) → Beside ρ (drop (length ds) ps) w
      → inputs_agree Γ ps (ds ++ (x ∷ [])) ≡ (inputs_agree Γ ps ds && type_fits Γ ρ x.1 w)
  unfolding inputs_agree
  agree_more [] [] x w h = rw h
  agree_more [] (d ∷ ds) x w h = rw h
  agree_more (p ∷ ps) [] x None h = absurd h
  agree_more (p ∷ ps) [] x (Some w) h = rw (h, none_agree Γ ps) (and-true (agrees Γ p.1 x.1) ∙ agrees_swap Γ p.1 x.1)
  agree_more (p ∷ ps) (d ∷ ds) x w h = rw (agree_more ps ds x w h) (sym (and_assoc (agrees Γ p.1 d.1) (inputs_agree Γ ps ds) (type_fits Γ ρ x.1 w)))

  -- one array more
  pub kept_more : (ds : List (ℕ × Ty)) (ps : List Port) {s r : Kept} (w : code.Option Typ) (x : Array) (n : ℕ × Ty) → Flags Γ ρ ds ps s → Beside ρ (drop (length ds) ps) w
      → x.len ≡ n.0 → asTy ρ x.element ≡ n.1 → r.first ≡ Some (unwrap_or s.first x)
      → r.even ≡ (s.even && eqb x.len (unwrap_or s.first x).len) → r.agree ≡ (s.agree && type_fits Γ ρ (asTy ρ x.element) w) → Flags Γ ρ (ds ++ (n ∷ [])) ps r
  unfolding same_lengths all_long
  kept_more [] ps {s} {r} w x n f b l t rf re ra = record {
    first = rw (rf, f.first) (l, t);
    even = re ∙ rw (f.first, f.even) (eq-eqb x.len x.len refl);
    agree = ra ∙ rw (f.agree, t) (sym (agree_more ps [] n w b));
  }
  kept_more (d ∷ ds) ps {s} {r} w x n f b l t rf re ra = go s.first f.first rf re
    where
      go : (a : code.Option Array) → First ρ (d ∷ ds) a → r.first ≡ Some (unwrap_or a x) → r.even ≡ (s.even && eqb x.len (unwrap_or a x).len) → Flags Γ ρ (d ∷ ds ++ (n ∷ [])) ps r
      go None g rf re = absurd g
      go (Some a) g rf re = record {
        first = rw rf g;
        even = re ∙ rw (f.even, l, g.0) (sym (long_more d.0 ds n));
        agree = ra ∙ rw (f.agree, t) (sym (agree_more ps (d ∷ ds) n w b));
      }

-- the tests of a seed's type and of the first array's elements
module _ (Γ : Scope) (ρ : Naming) (at : ℕ) (want : Ty) where
  pub seed_fits : (o : code.Option Typ) → seed_agrees Γ at want (asHint ρ o) ≡ require (type_fits Γ ρ want o) (plain at 145)
  unfolding seed_agrees require return
  seed_fits None = refl
  seed_fits (Some t) = refl

  pub elements_fit : (ds : List (ℕ × Ty)) (a : code.Option Array) (e : code.Option Typ) → First ρ ds a → MatchOption a (e ≡ None) (λ x. IsSomeAnd e (λ t. t ≡ x.element))
      → element_rule Γ at want ds ≡ require (type_fits Γ ρ want e) (plain at 145)
  unfolding element_rule require return
  elements_fit [] None e f m = rw m refl
  elements_fit [] (Some x) e f m = cc
  elements_fit (d ∷ ds) None e f m = absurd f
  elements_fit (d ∷ ds) (Some x) None f m = absurd m
  elements_fit (d ∷ ds) (Some x) (Some t) f m = rw (m, f.1) refl

-- ---- the function

pub function_is : {n : ℕ} (k : NodeKind) → node_kind k ≡ n → n ≡ 10 → is_function k ≡ true
unfolding is_function
function_is Function e h = refl
function_is Operator e h = absurd (omega arith)
function_is Imported e h = absurd (omega arith)

pub function_not : {n : ℕ} (k : NodeKind) → node_kind k ≡ n → (n ≡ 10 → ⊥) → is_function k ≡ false
unfolding is_function
function_not Function e h = absurd (h (sym e))
function_not Operator e h = refl
function_not Imported e h = refl

pub output_not : (m : Note) (ps : List Port) → (length ps ≡ 1 → ⊥) → one_output m ps ≡ fail m
unfolding one_output
output_not m [] h = refl
output_not m (p ∷ []) h = absurd (h refl)
output_not m (p ∷ r ∷ ps) h = refl

pub output_is : (m : Note) (ps : List Port) {p : Port} → ps ≡ p ∷ [] → one_output m ps ≡ return p.1
unfolding one_output
output_is m ps e = rw e

pub two_not : (m : Note) (ps : List Port) → (length ps ≡ 2 → ⊥) → two_inputs m ps ≡ fail m
unfolding two_inputs
two_not m [] h = refl
two_not m (p ∷ []) h = refl
two_not m (p ∷ r ∷ []) h = absurd (h refl)
two_not m (p ∷ r ∷ t ∷ ps) h = refl

pub two_are : (m : Note) (ps : List Port) {p r : Port} → ps ≡ p ∷ r ∷ [] → two_inputs m ps ≡ return (p.1, r.1)
unfolding two_inputs
two_are m ps e = rw e
