use Rattle.report_values.proofs.EnoughAnswers.{enough_answers}
use Rattle.report_values.proofs.laws.answers_are_among_their_bytes.Goals as goal

pub returns : goal.returns
returns c = enough_answers
