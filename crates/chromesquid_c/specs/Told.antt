-- What is told of a searcher.
use Rattle.aho_core.specs.Laws.{longest, shortest}
use Rattle.chromesquid.specs.Searcher.{Searcher, lengths_of, memory_usage_of, patterns_len_of}
use Rattle.chromesquid_c.specs.declared.options.CsFacts.{CsFacts}

abbrev pub facts_of : Searcher → CsFacts
facts_of searcher = record {
  patterns = patterns_len_of searcher;
  min_len = shortest (lengths_of searcher);
  max_len = longest (lengths_of searcher);
  memory = memory_usage_of searcher;
}
