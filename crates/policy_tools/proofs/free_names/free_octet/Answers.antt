use Rattle.std.proofs.Common.{[], ◌∷◌, sym, ◌∙◌, subst, arith}
use Rattle.std.proofs.lemmas.Bool.{both_ways}
use Rattle.dns_names.specs.Labels.{IsName}
use Rattle.policy_tools.specs.FreeNames.{IsFree}
use Rattle.policy_tools.proofs.FreeNameLemmas.{octet_name}
use Rattle.policy_tools.proofs.free_names.free_octet.Goals as goal

pub returns-then-is_free : goal.returns-then-is_free
returns-then-is_free c =
    let o = c.args.octet in
    let folded = sym c.to_ascii_lowercase.ensures.value ∙ c.if-to_ascii_lowercase-octet.false in
    record {
      label = o ∷ [];
      is = c.in_ok-child.ensures;
      name = subst IsName (sym c.in_ok-child.ensures) (octet_name c.args.top.now o c.requires.name c.requires.room (omega (arith, c.ranges.octet.fits)) folded);
      free = c.is_free.ensures.0 c.if-is_free.true;
    }

pub returns : goal.returns
returns c = λ folded free. both_ways c.is_free.result c.if-is_free.false (c.is_free.ensures.1 (subst (IsFree c.args.rules.now) (sym c.in_ok-child.ensures) free))
