use Rattle.std.proofs.Common.{sym, ◌∙◌, map}
use Rattle.dns_data.specs.Items.{item_of}
use Rattle.dns_master.proofs.OtherLemmas.{whole_open, whole_given, whole_other}
use Rattle.dns_master.proofs.other.check_data.Goals as goal

pub returns-then-one_ends_open : goal.returns-then-one_ends_open
returns-then-one_ends_open c = λ ttl.
    whole_open ttl c.args.kind.now c.args.fields.now (sym c.is_other_type.ensures ∙ c.if-is_other_type.true) (sym c.one_ends_open.ensures ∙ c.if-one_ends_open.true)

pub returns-then-is_other_type : goal.returns-then-is_other_type
returns-then-is_other_type c = λ ttl.
    whole_given ttl c.args.kind.now c.args.fields.now (sym c.is_other_type.ensures ∙ c.if-is_other_type.true) (sym c.one_ends_open.ensures ∙ c.if-one_ends_open.false)

pub returns : goal.returns
returns c = λ ttl. whole_other ttl c.args.kind.now (map item_of c.args.fields.now) (sym c.is_other_type.ensures ∙ c.if-is_other_type.false)
