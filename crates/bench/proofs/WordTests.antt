-- What the test of the same word says, for the proofs that look for it.
use Rattle.aho_laws.proofs.SameWords.{is_same_word-Decides}

pub ruleset tests = (is_same_word-Decides)
