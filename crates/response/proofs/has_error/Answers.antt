-- The search for a code that is not W0051's is the search for an error.
use Rattle.std.proofs.Common.{◌∙◌, sym, not, eqb, rules, tests}
use Rattle.std.proofs.lemmas.Iterator.{YieldsList-from_slice}
use Rattle.std.proofs.lemmas.Iterator.Search.{any_from_yields_List}
use Rattle.lustre.specs.declared.Line.{Line}
use Rattle.response.proofs.Errors.{error_among}
use Rattle.response.proofs.has_error.Goals as goal

pub returns : goal.returns
returns c =
    any_from_yields_List (λ (l : Line). not (eqb l.code 51)) _ _ c.any.result c.any.ensures.ran (YieldsList-from_slice c.args.lines.now cc) (λ x b q k. search (rules, tests))
    ∙ sym (error_among c.args.lines.now)
