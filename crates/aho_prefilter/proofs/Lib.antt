-- what occurs in a span, and where a search for bytes or for a needle stops in its part of the haystack
pub mod Parts
-- what each answer of a search means
pub mod Found
-- how the first bytes grow by a pattern
pub mod Few
-- which bytes they are, and that what is held is a prefilter of the patterns
pub mod Held
-- how the fingerprints grow by a pattern, and that a packed search that is held is a prefilter of the patterns
pub mod HeldPacked
-- how many places meet a packed search with heads, counted one by one
mod Shares
-- what a candidate tells a search
pub mod Skips
-- the first bytes, said literally
pub mod Literally
-- vectors, lane by lane
mod Lanes
-- what is looked up at bytes that were loaded
mod Loaded
-- words that were added to a packed search meet its masks where they stand
pub mod PackedSound
-- what the packed search for the patterns finds
pub mod PackedFinds
-- hashes of the same bytes are the same
pub mod Hashes
-- the first place of a part, and of a longer one
pub mod Firsts
-- where the marks of a strided search stand
pub mod Strides
-- how the tables of a strided search grow by a pattern
pub mod Tables
-- words that were added to a strided search have their bits set
pub mod StridedSound
-- what the strided search for the patterns finds
pub mod StridedFinds
-- the last places, copied
pub mod Copied
-- blocks of sixteen places
pub mod Blocks
-- the places that bits tell
pub mod Told
-- words that were added to a packed search with heads meet it where they stand
pub mod HeadsSound
-- what the packed search with heads finds
pub mod HeadsFinds
-- what the search for windows finds
pub mod WindowsFinds
-- that a search with heads, and a strided one, that is held is a prefilter of the patterns
pub mod HeldStrided
-- bytes that are the same by the case rule are hashed alike
pub mod Caseless
