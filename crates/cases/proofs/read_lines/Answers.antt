-- `cases::read_lines` meets its contract.
use Rattle.std.proofs.Common.{◌≡◌, ◌-◌, ◌∙◌, ap, replicate, rules, arith, length, length-take}
use Rattle.std.proofs.lemmas.List.{length-replicate, drop-replicate}
use Rattle.std.proofs.lemmas.Slice.{drop-append-drop}
use Rattle.lustre.specs.declared.Line.{Line}
use Rattle.cases.specs.Lines.{blank}
use Rattle.cases.proofs.read_lines.Goals as goal

pub returns : goal.returns
returns g c =
    let long : length c.loop-i.line-items ≡ c.args.n = c.loop-i.auto.line-items ∙ simp (length-take, length-replicate) (omega arith) in
    let default : c.default-lines.result ≡ blank = search rules in
    drop-append-drop c.args.n _ c.loop-i.line-items c.args.n (omega arith) long ∙ drop-replicate c.args.n 1024 _ ∙ ap (λ (l : Line). replicate (1024 - c.args.n) l) default
