-- `derivation_word::reading::stepped` meets its contract. Assumes nothing.
use Rattle.derivation_word.proofs.Answers.{step-stored}
use Rattle.derivation_word.proofs.reading.stepped.Goals as goal

pub returns : goal.returns
returns c =
    step-stored c.args.d c.requires.0 c.requires.1 c.requires.2 c.args.step c.requires.3 c.args.f
