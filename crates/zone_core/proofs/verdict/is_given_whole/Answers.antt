use Rattle.std.proofs.Common.{◌≡◌, sym, ◌∙◌}
use Rattle.std.specs.Prelude.{◌&&◌}
use Rattle.std.specs.List.{filter}
use Rattle.zone_core.specs.Sets.{key_of, at}
use Rattle.zone_core.proofs.GroupLemmas.{all_given, all_there, both_tests, first_test, set_tests}
use Rattle.zone_core.proofs.verdict.is_given_whole.Goals as goal

pub returns-then-all_given : goal.returns-then-all_given
returns-then-all_given c =
    let rs = c.args.records.now in
    let run = filter (λ r. at c.args.name.now c.args.record_type (key_of r)) rs in
    let first : c.all_given.result ≡ all_given c.args.name.now c.args.record_type c.args.all.now run = rw (sym c.of_set-set.ensures) c.all_given.ensures in
    let second : c.all_there.result ≡ all_there c.args.name.now c.args.record_type c.args.all.now run = rw (sym c.of_set-set.ensures) c.all_there.ensures in
    both_tests c.all_given.result c.all_there.result c.if-all_given.true ∙ (λ i. first i && second i) ∙ set_tests rs c.requires c.args.name.now c.args.record_type c.args.all.now

pub returns-else-all_given : goal.returns-else-all_given
returns-else-all_given c =
    let rs = c.args.records.now in
    let run = filter (λ r. at c.args.name.now c.args.record_type (key_of r)) rs in
    let first : c.all_given.result ≡ all_given c.args.name.now c.args.record_type c.args.all.now run = rw (sym c.of_set-set.ensures) c.all_given.ensures in
    let rest = all_there c.args.name.now c.args.record_type c.args.all.now run in
    first_test c.all_given.result rest c.if-all_given.false ∙ (λ i. first i && rest) ∙ set_tests rs c.requires c.args.name.now c.args.record_type c.args.all.now
