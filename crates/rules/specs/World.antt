-- What inference assumes of the slices that it reads: a text for each name number, what the names mean, and the scope, six tables of 512
-- entries by name number, that says the same of the numbers. Document 01, 'Records, in order of writing': a written type has at most
-- 68 levels.
-- Assumes nothing: these are definitions.
use Rattle.std.specs.Prelude.{ℕ, suc, ◌+◌, ◌<◌, ◌≡◌, List, length, get_or}
use Rattle.std.proofs.Math.Option.{Option, none, some}
use Rattle.lustre.specs.Name.{Name}
use Rattle.lustre.specs.Types.{Ty}
use Rattle.lustre.specs.Project.{Port, Heading}
use Rattle.lustre.specs.Grammar.{node_kind}
use Rattle.lustre.specs.Resolve.{Scope}
use Rattle.input.specs.Depths.{ShallowType, ShallowPorts}
use Rattle.standing.specs.Standing.{Source, source, RecAt, NameAt, TypeAt, PortsAt, ports_size}
use Rattle.types.specs.Value.{Naming}
use Rattle.types.specs.Scope.{Table, Targets}
use Rattle.types.specs.declared.context.Context.{Context}
use Rattle.lustre.specs.declared.Records.{Records}

-- the type t stands at a place and has at most 68 levels
pub record Typed (S : Source) (t : Ty) (at : ℕ) : Type 0 where
  pub stands : TypeAt S t at
  pub few : ShallowType t

-- the ports ps stand at a place, behind their list record, and their types have at most 68 levels
pub record Listed (S : Source) (ps : List Port) (at : ℕ) : Type 0 where
  pub stand : PortsAt S ps at
  pub few : ShallowPorts ps

-- the record of the enum x stands at a place
pub record EnumAt (S : Source) (at : ℕ) (x : Name) : Type 0 where
  pub head : RecAt S at 6
  pub name : NameAt S at x

-- a node's record with its inputs and outputs stands at a place
pub record HeadingAt (S : Source) (at : ℕ) (h : Heading) : Type 0 where
  pub head : RecAt S at (node_kind h.kind)
  pub inputs : Listed S h.inputs (at + 1)
  pub outputs : Listed S h.outputs (at + 1 + ports_size h.inputs)

-- what an entry of the scope says of a name: 0 for nothing, else 1 and the number p of the record that declares it
pub data Found {A : Type 0} (P : ℕ → A → Type 0) : ℕ → Option A → Type 0 where
  absent : Found P 0 none
  present : {p : ℕ} {a : A} → P p a → Found P (suc p) (some a)

-- the table from entry k of the scope on says by number what f says by text
abbrev pub Row : {A : Type 0} → Naming → List ℕ → ℕ → (ℕ → A → Type 0) → (Name → Option A) → Type 0
Row ρ sc k P f = (n : ℕ) → n < 512 → Found P (get_or sc (n + k) 0) (f (ρ n))

-- Texts of the names' numbers, and what the names mean, as the whole project's records and the scope have it. A type or a list of
-- fields stands behind the record that declares it, so at the entry itself.
pub record World (ks ws sc : List ℕ) : Type 0 where
  pub text : Naming
  pub number : Name → ℕ
  pub back : (n : ℕ) → number (text n) ≡ n
  pub Γ : Scope
  pub even : length ks ≡ length ws
  pub room : length sc ≡ 3072
  pub alias : Table text Γ.alias ks ws sc
  pub targets : Targets ks ws sc
  pub fields : Row text sc 512 (λ p ps. Listed (source ks ws text) ps (p + 1)) Γ.fields
  pub variant : Row text sc 1024 (EnumAt (source ks ws text)) Γ.variant
  pub constant : Row text sc 1536 (λ p t. Typed (source ks ws text) t (p + 1)) Γ.constant
  pub node : Row text sc 2048 (HeadingAt (source ks ws text)) Γ.node
  pub port : Row text sc 2560 (λ p t. Typed (source ks ws text) t (p + 1)) Γ.port

-- a type at a place of any records
pub record TypeHere (ks ws : List ℕ) (at : ℕ) : Type 0 where
  pub text : Naming
  pub t : Ty
  pub typed : Typed (source ks ws text) t at

-- a list of ports at a place of any records
pub record PortsHere (ks ws : List ℕ) (at : ℕ) : Type 0 where
  pub text : Naming
  pub ps : List Port
  pub listed : Listed (source ks ws text) ps at

-- the same of the records and the scope of a context
abbrev pub WorldOf : Context → Type 0
WorldOf x = World x.records.kinds.now x.records.words.now x.scope.now.entries

-- the same of records
abbrev pub TypeOf : Records → ℕ → Type 0
TypeOf r at = TypeHere r.kinds.now r.words.now at

abbrev pub PortsOf : Records → ℕ → Type 0
PortsOf r at = PortsHere r.kinds.now r.words.now at

-- the records with the texts of the names
abbrev pub source_of : Records → Naming → Source
source_of r ρ = source r.kinds.now r.words.now ρ
