-- The names of states.
pub mod NamesOfTries
-- The trie: one state more, one byte more, one pattern more, and its counts.
pub mod OneWordMore
pub mod ListedBytes
pub mod Child
pub mod Nodes
pub mod BytesAdded
pub mod NodesInOrder
pub mod EachNode
pub mod LeadingBytes
pub mod PatternAdded
pub mod CountedTrie
pub mod PatternEnds
pub mod FirstStates
pub mod MorePatterns
pub mod ShortestLength
-- Failure links: the starts' transitions, one step along the links so far, a child's link, a list copied, what copying
-- keeps, the links by their distance, one child more, how many matches there are, one transition of the head.
pub mod NumberTests
pub mod StartTransitions
pub mod Built
pub mod LinkedNodes
pub mod StepsAlongLinks
pub mod ChildLinks
pub mod CopiedMatches
pub mod KeptTransitions
pub mod LinkedByDepth
pub mod LinkedChild
pub mod MatchTotals
pub mod VisitedTransitions
pub mod Phases
-- A step of a search.
pub mod StepResults
-- Why a build stops, and sizes and causes computed.
pub mod RefusedGrowths
pub mod RefusedChild
pub mod RefusedPattern
pub mod StoppedBuilds
pub mod BuildRefusals
pub mod SizeChecks
-- What a built table tells: its states step as the words do, and it has the laws of an automaton.
pub mod AutomatonStates
pub mod SoundAutomata
pub mod ListLinks
pub mod AutomatonLaws
-- What is held is a prefilter of the patterns.
pub mod HeldPrefilters
-- Dense rows: how many there are, and the classes of bytes that they are by.
pub mod RowCounts
pub mod AlikeBytes
pub mod ByteBorders
pub mod NodeBorders
pub mod KeptBorders
pub mod DenseSizes
-- The numbers that states keep.
pub mod ShuffledStates
-- Rows that move with their states.
pub mod MovedRows
pub mod RenumberedAutomata
pub mod EmptyPatterns
