-- `rules::var_rule` meets its contract: what the entry that is there leads to. Assumes nothing.
use mathlib.Core.Path.{refl, ◌∙◌}
use Rattle.types.specs.Value.{bottom}
use Rattle.rules.proofs.Laws.{gave, returned_bottom, failed_of, found, found_not}
use Rattle.rules.proofs.Places.{type_there, read_is}
use Rattle.rules.proofs.Rules.{var_port, var_constant, var_variant, var_absent}
use Rattle.rules.proofs.var_rule.Goals as goal

pub read_type-requires : goal.read_type-requires
read_type-requires c = type_there (found (c.requires.port _ c.args.name.below) c.in-Some.ensures.entry).there

pub returns-in-Some : goal.returns-in-Some
returns-in-Some c = λ W. let w = found (W.port _ c.args.name.below) c.in-Some.ensures.entry in gave (read_is w.there c.read_type.ensures) (var_port W.Γ _ _ w.is)

pub read_type-requires-in-Some-declared : goal.read_type-requires-in-Some-declared
read_type-requires-in-Some-declared c = type_there (found (c.requires.constant _ c.args.name.below) c.in-Some-declared.ensures.entry).there

pub returns-in-Some-declared : goal.returns-in-Some-declared
returns-in-Some-declared c =
    λ W.
    let w = found (W.constant _ c.args.name.below) c.in-Some-declared.ensures.entry in
    gave (read_is w.there c.read_type-in-Some-declared.ensures) (var_constant W.Γ _ _ (found_not (W.port _ c.args.name.below) c.in_default.ensures.entry) w.is)

pub name-requires-clause-inside : goal.name-requires-clause-inside
name-requires-clause-inside c = (found (c.requires.variant _ c.args.name.below) c.in-Some-declared-2.ensures.entry).there.head.in_words

pub name-requires-clause-small : goal.name-requires-clause-small
name-requires-clause-small c = (found (c.requires.variant _ c.args.name.below) c.in-Some-declared-2.ensures.entry).there.name.small

pub returns-in-Some-declared-2 : goal.returns-in-Some-declared-2
unfolding bottom
returns-in-Some-declared-2 c =
    λ W.
    let w = found (W.variant _ c.args.name.below) c.in-Some-declared-2.ensures.entry in
    returned_bottom c.named.ensures
    (var_variant W.Γ _ _ (found_not (W.port _ c.args.name.below) c.in_default.ensures.entry) (found_not (W.constant _ c.args.name.below) c.in_default-declared.ensures.entry) w.is
    ∙ rw (← w.there.name.text, c.name.ensures) refl)

pub returns : goal.returns
returns c =
    λ W.
    let s = c.args.name.below in
    rw (var_absent W.Γ c.args.at (W.text c.args.name.number) (found_not (W.port _ s) c.in_default.ensures.entry) (found_not (W.constant _ s) c.in_default-declared.ensures.entry) (found_not (W.variant _ s) c.in_default-declared-2.ensures.entry))
    (failed_of _ (W.back _) c.fail.ensures)
