use Rattle.std.proofs.Common.{ℕ, ◌+◌, ◌*◌, eqb, ap, ◌∙◌}
use Rattle.std.specs.Int.{bit_at}
use Rattle.std.proofs.lemmas.Nat.Bits.{shr_and_one}
use Rattle.dns_data.specs.Types.{place_of}
use Rattle.policy_tools.proofs.points.Points.include.Goals as goal

pub returns : goal.returns
returns c =
    let bits = c.args.self.bits in
    ap (λ (n : ℕ). eqb n 1) (shr_and_one bits (5 * c.place.result + c.place-2.result))
    ∙ ap (λ (n : ℕ). eqb (bit_at bits (5 * n + c.place-2.result)) 1) c.place.ensures.value
    ∙ ap (λ (n : ℕ). eqb (bit_at bits (5 * place_of c.args.record_type + n)) 1) c.place-2.ensures
