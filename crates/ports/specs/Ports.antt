-- What the functions on lists of ports and of names ask, and what they answer.
-- Assumes nothing: these are definitions.
use Rattle.std.specs.Prelude.{ℕ, ◌+◌, ◌≡◌, List, ◌++◌}
use Rattle.lustre.specs.Name.{Name}
use Rattle.lustre.specs.Types.{Ty}
use Rattle.lustre.specs.Project.{Port, Heading, port_names}
use Rattle.lustre.specs.Node.{repeated}
use Rattle.standing.specs.Standing.{Source, ports_size}
use Rattle.lines.specs.Lines.{Noted}
use Rattle.lines.specs.declared.Spot.{Spot}
use Rattle.lines.specs.declared.Lines.{Lines}
use Rattle.scope.specs.Names.{Numbers}
use Rattle.scope.specs.Tables.{Tables}

-- the ports ps are entered behind those in force, and each that repeats a name has its line; the record behind the list is r
pub record PortsEntered (S : Source) (ps : List Port) (list code : ℕ) (q : Spot) (sc : List ℕ) (l : Lines) (r : ℕ) (sc' : List ℕ) (l' : Lines) : Type 0 where
  pub next : r ≡ list + ports_size ps
  pub tables : (as' : List (Name × Ty)) (rs : List (Name × List Port)) (vs : List (Name × Name)) (cs : List (Name × Ty)) (ns : List (Name × Heading)) (env : List Port)
      → Tables S as' rs vs cs ns env sc → Tables S as' rs vs cs ns (env ++ ps) sc'
  pub noted : (num : Name → ℕ) → Numbers S.text num
      → (as' : List (Name × Ty)) (rs : List (Name × List Port)) (vs : List (Name × Name)) (cs : List (Name × Ty)) (ns : List (Name × Heading)) (env : List Port)
      → Tables S as' rs vs cs ns env sc → Noted num q (repeated code (port_names env) (port_names ps)) l l'
