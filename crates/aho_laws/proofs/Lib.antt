-- The definitions are the right ones.
-- the order of occurrences, and the best of a set
pub mod Orders
-- words that are the same
pub mod SameWords
-- members of lists that are put together
pub mod Members
-- lists over the places of a range
pub mod Ranges
-- all occurrences, each once and in order
pub mod Listings
-- a search has one answer
pub mod Answers
-- the matches of an iteration
pub mod Iterations
-- a span that is cut, and a pass over a list of what occurs
pub mod ClearCuts
-- the bytes of a span as a text of their own, and texts that are joined
pub mod SpanTexts
-- a text that is cut into pieces, its finds and its replacement
pub mod JoinedPieces
-- lists of parts that overlap
pub mod OverlappingParts
-- the list of a span, from that of its bytes as a text
pub mod SpanLists
-- a haystack whose matches are replaced
pub mod Replacements
-- the runs of a cover
pub mod CoverRuns
pub mod TextRuns
pub mod SettledRuns
pub mod CoverKept
pub mod CoverClean
pub mod CoverParts
-- the test of a character boundary
pub mod Boundaries
-- what a run of a replacement closure appends
pub mod ClosureRuns
-- The word automaton has its laws: in the order in which docs/WORD_AUTOMATON.md goes through them.
-- words that begin other words, and numbers that pass a test
pub mod Begins
-- which patterns are kept, which words are nodes or cut, and what a word's own patterns are
pub mod Kept
-- the state after one byte more is found from the state alone
pub mod StepLaw
-- occurrences in a whole word, by the word's parts
pub mod Stands
-- where the first occurrence of a word starts
pub mod Fronts
-- what one byte more does to the best of a leftmost kind
pub mod Leftmost
-- what a word's state lists
pub mod Listed
-- what one byte more does to the best of Standard
pub mod Standard
-- Standard: the list of a held state is what ends where the word does
pub mod EndingLists
-- what ends after a start state starts there or later
pub mod Starts
-- what a held state says of its word
pub mod LiteralReadings
-- the words are an automaton that has the laws
pub mod WordAutomaton
-- how many states a step looks at
pub mod LookUps
-- failure links and lists, from those of shorter words
pub mod ByLinks
-- what failure links are, and how many a step follows, said literally
pub mod LiteralLinks
-- the trie of the first patterns, and what one pattern more adds
pub mod Inserted
-- states of any kind that are named by words and linked as they are: where a step leads
pub mod LinkedStates
-- states of any kind that are held as the words are have the laws too
pub mod NamedStates
-- such states can be had: the words themselves
pub mod Instance
-- Checks by computation: a definition that changes its meaning is caught in seconds.
-- the laws of an automaton as tests, on words
pub mod LawTests
-- and what they say of all short words
pub mod ExhaustiveChecks
pub mod ExhaustiveLists
-- literal readings beside the definitions
pub mod LiteralChecks
-- the worked tables and lists
pub mod WorkedExamples
pub mod CoverExamples
