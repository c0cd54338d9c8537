use Rattle.std.proofs.Common.{◌≡◌, ◌++◌, [], true, refl, sym, ap, ◌∙◌, append_assoc}
use Rattle.std.proofs.Output.{has_written_append, has_written_of_eq}
use Rattle.dns_data.proofs.DigestLaws.{digits_append, no_digits}
use Rattle.dns_data.proofs.TextLemmas.{nothing_written, split_parts}
use Rattle.dns_data.proofs.text.DigestDisplay.fmt.Goals as goal

pub loop-rest-init : goal.loop-rest-init
loop-rest-init g c = ([], c.octets-rest.ensures.octets, λ plain. has_written_of_eq _ _ _ _ _ (sym no_digits) (nothing_written _ c.args.f.now plain))

pub loop-rest-preserved : goal.loop-rest-preserved
loop-rest-preserved g c =
    let l = c.loop-rest in
    let front = l.invariant.0 in
    let part = c.split_at.result.0.now in
    let after = c.split_at.result.1.now in
    let parts : part ++ after ≡ l.rest.now = split_parts l.rest.now part after _ c.split_at.ensures.front c.split_at.ensures.back in (
      front ++ part,
      append_assoc front part after ∙ ap (λ xs. front ++ xs) parts ∙ l.invariant.1,
      λ plain.
          let now = l.invariant.2 plain in
          has_written_of_eq _ _ _ _ _ (digits_append front part) (has_written_append _ _ _ _ _ _ now (c.in_ok-write_digits.ensures now.plain (refl {a = true}))),
    )
