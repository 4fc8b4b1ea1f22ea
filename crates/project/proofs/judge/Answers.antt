-- `judge` meets its contract: lines that fit are a report, and more are refusal 7, by the laws of proofs/Closed.antt. Assumes nothing.
use native.Mathlib.Omega.{arith}
use mathlib.Core.Path.{refl}
use lib.ListN.{length}
use Rattle.project.proofs.Closed.{judged_report, judged_more}
use Rattle.project.proofs.Nodes.{blank_front}
use Rattle.std.proofs.Common.{rules}
use Rattle.std.specs.Prelude.{◌≡◌, replicate}
use Rattle.project.proofs.judge.Goals as goal

pub report-looks-requires-clause-blank : goal.report-looks-requires-clause-blank
report-looks-requires-clause-blank c = let z : c.fill.new.self ≡ replicate (length c.args.work.now) 0 = search rules in let e = rw c.unwrap-graph.ensures at c.first_chunk_mut.ensures.cases in rw e.same (blank_front z (omega (arith, c.requires.room)))

pub returns-then-count-room-clause-judged : goal.returns-then-count-room-clause-judged
returns-then-count-room-clause-judged c =
    λ g e.
    let r = c.report-looks.ensures g e in
    let same = r.0.same in
    let u = judged_report g refl refl r.0 (omega arith) r.1 (omega arith) in
    search (rules, u, same)

pub returns-else-count-room-clause-judged : goal.returns-else-count-room-clause-judged
returns-else-count-room-clause-judged c =
    λ g e.
    let r = c.report-looks.ensures g e in
    let same = r.0.same in
    let u = judged_more g refl refl r.0 (omega arith) (omega arith) in
    search (rules, u, same)
