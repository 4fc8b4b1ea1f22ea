-- `nodes::check_loops` meets its contract. Assumes nothing.
use Rattle.nodes.proofs.Paths.{loop_found, loop_none, loops_found}
use Rattle.nodes.proofs.check_loops.Goals as goal

pub returns-in-Some-clause-noted : goal.returns-in-Some-clause-noted
returns-in-Some-clause-noted c = λ kind qs text num names h b s.
    let t = c.search-found.ensures.texts qs text names s in
    loops_found kind qs h (loop_found qs t c.in-Some.is c.search-found.ensures.ordered (c.loop_lines.ensures text num b)) t.counted

pub returns-in_default-clause-noted : goal.returns-in_default-clause-noted
returns-in_default-clause-noted c = λ kind qs text num names h b s.
    let t = c.search-found.ensures.texts qs text names s in
    loops_found kind qs h (loop_none qs t c.in_default.is) t.counted
