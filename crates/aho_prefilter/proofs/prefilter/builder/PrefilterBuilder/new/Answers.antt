use Rattle.std.proofs.Common.{sym}
use Rattle.aho_prefilter.proofs.Few.{few_of-none, whole_of-none}
use Rattle.aho_prefilter.proofs.prefilter.builder.PrefilterBuilder.new.Goals as goal

pub returns : goal.returns
returns c = record {
  empty = λ p none rule. record {
    rule = sym rule;
    whole = sym (whole_of-none p none);
    first_bytes = sym (few_of-none p none);
  };
}
