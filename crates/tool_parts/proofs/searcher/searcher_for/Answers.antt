-- The builder asks for the patterns of the task.
use Rattle.tool_parts.proofs.searcher.searcher_for.Goals as goal

pub searcher_by-requires : goal.searcher_by-requires
searcher_by-requires c = record { of = rw c.builder_for-builder.ensures.settings c.requires.of }

pub returns-clause-of : goal.returns-clause-of
returns-clause-of c = rw c.builder_for-builder.ensures.settings at c.searcher_by.ensures.of

pub returns-clause-kind : goal.returns-clause-kind
returns-clause-kind c = rw c.builder_for-builder.ensures.settings at c.searcher_by.ensures.kind

pub returns-clause-start : goal.returns-clause-start
returns-clause-start c = rw c.builder_for-builder.ensures.start at c.searcher_by.ensures.start
