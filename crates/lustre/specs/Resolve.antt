-- What names mean, and types without aliases: `TypeContext`, lib.rs 49 to 132, and `types_compatible`, lib.rs 692.
-- Assumes nothing: these are definitions.
use Rattle.std.specs.Prelude.{ℕ, zero, suc, Bool, true, false, List, [], ◌∷◌, ◌++◌, map}
use Rattle.std.proofs.Math.Option.{Option, none, some}
use Rattle.lustre.specs.Name.{Name, ◌among◌, lookup}
use Rattle.lustre.specs.Types.{Ty, basic, Array, Named, Tuple, same-type}
use Rattle.lustre.specs.Project.{Port, Decl, Alias, Record, Enum, Heading, Skeleton, all_types, all-constants, all-nodes}

-- What each name means where an expression stands: `TypeContext` by sort of name, the signatures of `check_project`, and the ports
-- and locals of the node.
pub record Scope : Type 0 where
  pub alias : Name → Option Ty
  pub fields : Name → Option (List Port)
  pub variant : Name → Option Name
  pub constant : Name → Option Ty
  pub node : Name → Option Heading
  pub port : Name → Option Ty

unfoldable pub aliases-of : List Decl → List (Name × Ty)
aliases-of [] = []
aliases-of (Alias x t ∷ ds) = (x, t) ∷ aliases-of ds
aliases-of (Record x fs ∷ ds) = aliases-of ds
aliases-of (Enum x vs ∷ ds) = aliases-of ds

unfoldable pub records-of : List Decl → List (Name × List Port)
records-of [] = []
records-of (Alias x t ∷ ds) = records-of ds
records-of (Record x fs ∷ ds) = (x, fs) ∷ records-of ds
records-of (Enum x vs ∷ ds) = records-of ds

-- each variant with its enum
unfoldable pub variants-of : List Decl → List (Name × Name)
variants-of [] = []
variants-of (Alias x t ∷ ds) = variants-of ds
variants-of (Record x fs ∷ ds) = variants-of ds
variants-of (Enum x vs ∷ ds) = map (λ v. (v, x)) vs ++ variants-of ds

-- `TypeContext::from_project`, lib.rs 64, and the signatures, lib.rs 174: of equal names the last declaration is in force. No port is
-- in scope here, as for a constant's value.
unfoldable pub context : Skeleton → Scope
context s = record {
  alias = λ x. lookup x (aliases-of (all_types s));
  fields = λ x. lookup x (records-of (all_types s));
  variant = λ x. lookup x (variants-of (all_types s));
  constant = λ x. lookup x (map (λ c. (c.name, c.type)) (all-constants s));
  node = λ x. lookup x (map (λ n. (n.name, n)) (all-nodes s));
  port = λ x. none;
}

-- the scope inside a node with these ports and locals
unfoldable pub within-node : Scope → List Port → Scope
within-node Γ env = record { alias = Γ.alias; fields = Γ.fields; variant = Γ.variant; constant = Γ.constant; node = Γ.node; port = λ x. lookup x env }

abbrev pub Aliases : Type 0
Aliases = Name → Option Ty

unfoldable pub array_of : ℕ → Option Ty → Option Ty
array_of n none = none
array_of n (some t) = some (Array n t)

-- what stands for a name: itself, or what its alias gives
unfoldable pub follow-alias : Name → (Ty → Option Ty) → Option Ty → Option Ty
follow-alias x g none = some (Named x)
follow-alias x g (some target) = g target

-- `try_resolve`, lib.rs 97: the first number is how many levels are left, 65 at the start (depths 0 to 64); `seen` the aliases entered
unfoldable pub try-resolve : Aliases → ℕ → List Name → Ty → Option Ty
try-resolve al zero seen t = none
try-resolve al (suc left) seen (basic b) = some (basic b)
try-resolve al (suc left) seen (Tuple n) = some (Tuple n)
try-resolve al (suc left) seen (Array n t) = array_of n (try-resolve al left seen t)
try-resolve al (suc left) seen (Named x) =
    follow-alias x (λ target. elim (x among seen) [ true ↦ none | false ↦ try-resolve al left (x ∷ seen) target ]) (al x)

unfoldable pub or-itself : Ty → Option Ty → Ty
or-itself t none = t
or-itself t (some r) = r

-- `resolve`, lib.rs 93: a type that does not resolve is used as it is
unfoldable pub resolve : Aliases → Ty → Ty
resolve al t = or-itself t (try-resolve al 65 [] t)

-- `types_compatible`, lib.rs 692
unfoldable pub compatible : Aliases → Ty → Ty → Bool
compatible al a b = same-type (resolve al a) (resolve al b)
