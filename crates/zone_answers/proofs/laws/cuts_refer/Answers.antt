use Rattle.zone_answers.proofs.LawLemmas.{referrals}
use Rattle.zone_answers.proofs.laws.cuts_refer.Goals as goal

pub returns : goal.returns
returns c = referrals
