-- `nodes::check_node` meets its contract. Assumes nothing.
use native.Mathlib.Omega.{arith}
use Rattle.lustre.specs.Project.{skeleton}
use Rattle.lustre.specs.Resolve.{context}
use Rattle.nodes.proofs.Body.{by_records, imported_reports, imported_looks, is_function_here, is_imported, not_imported}
use Rattle.nodes.proofs.check_node.Goals as goal

pub returns-then-kind-eq-IMPORTED : goal.returns-then-kind-eq-IMPORTED
returns-then-kind-eq-IMPORTED c = λ g.
    let k = is_imported g c.if-kind-eq-IMPORTED.true in
    let q = c.about.ensures in
    record {
      reports = rw q.1 at (imported_reports q.0 q.2 (context (skeleton g.model.P)) g.n k (c.check_imported.ensures (by_records g) g.model.number));
      looked = imported_looks g.n k;
      few = omega arith;
      declared = g.declared;
      blank = c.requires.blank;
    }

pub check_body-requires-clause-node : goal.check_body-requires-clause-node
check_body-requires-clause-node c = let g = c.requires.node in (g, is_function_here g, not_imported g c.if-kind-eq-IMPORTED.false)

pub returns : goal.returns
returns c = λ g. rw c.about.ensures.1 at (c.check_body.ensures g (is_function_here g) (not_imported g c.if-kind-eq-IMPORTED.false))
