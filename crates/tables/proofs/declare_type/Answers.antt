-- `tables::declare_type` meets its contract. Assumes nothing.
use native.Mathlib.Omega.{arith}
use Rattle.std.specs.Prelude.{◌+◌, ◌≡◌}
use Rattle.lustre.specs.Project.{decl_name}
use Rattle.lustre.specs.Resolve.{aliases_of, records_of, variants_of}
use Rattle.tables.proofs.Repeats.{spotted}
use Rattle.tables.proofs.Decls.{head, name_number, enum_at, enum_given, alias_entered, record_entered, enum_entered}
use Rattle.tables.proofs.declare_type.Goals as goal

pub name-name-requires-clause-inside : goal.name-name-requires-clause-inside
name-name-requires-clause-inside c = (head c.requires.stands).in_words

pub name-name-requires-clause-small : goal.name-name-requires-clause-small
name-name-requires-clause-small c = (head c.requires.stands).name.small

pub bounds-records-at : goal.bounds-records-at
bounds-records-at c = (head c.requires.stands).in_kinds

pub declare_variants-requires : goal.declare_variants-requires
declare_variants-requires c = let g = c.requires.stands in enum_given g (enum_at g (λ e. omega arith) (λ e. omega arith))

pub returns-in-4 : goal.returns-in-4
returns-in-4 c =
    λ g ds count E.
    let z : c.name-name.result.number + 0 ≡ c.name-name.result.number = omega arith in
    rw (c.declare.ensures, z) (alias_entered g c.name-name.ensures ds count (spotted c.about.ensures) (c.repeated_name.ensures.noted g.model.number (decl_name g.d) (name_number g c.name-name.ensures)) c.repeated_name.ensures.added E c.in-4.is (omega arith))

pub returns-in-5 : goal.returns-in-5
returns-in-5 c = λ g ds count E. rw c.declare-in-5.ensures (record_entered g c.name-name.ensures ds count (spotted c.about.ensures) (c.repeated_name.ensures.noted g.model.number (decl_name g.d) (name_number g c.name-name.ensures)) c.repeated_name.ensures.added E c.in-5.is)

pub returns-in_default : goal.returns-in_default
returns-in_default c =
    λ g ds count E.
    let N = enum_at g (λ e. omega arith) (λ e. omega arith) in
    enum_entered g c.name-name.ensures ds count (spotted c.about.ensures) (c.repeated_name.ensures.noted g.model.number (decl_name g.d) (name_number g c.name-name.ensures)) c.repeated_name.ensures.added E N (c.declare_variants.ensures (enum_given g N) (aliases_of ds) (records_of ds) (variants_of ds) _ _ _ E.tables)
