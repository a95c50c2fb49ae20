use Rattle.am_doc.proofs.OneJudgement as judgements
use Rattle.am_doc.proofs.laws.one_judgement.Goals as goal

pub returns : goal.returns
returns c = judgements.one_judgement
