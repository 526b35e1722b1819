-- What is done to texts, whatever that is, and what is so of a text that was read.
use Rattle.acredact.specs.Common.{Appends, Consumes, IsAtEnd, Occurrence, SourceGave, SourceGhosts}
use Rattle.std.specs.Prelude.{◌≡◌, ℕ, Bool, true, List, Option}
use Rattle.acredact.specs.Reads.{ReadsText}

-- what is written of a text; of some first bytes of one, by whether its end was seen; and how near that comes to them where a read fails; which
-- ranges of a text are counted; and whether it is promised that numbers are no greater than what was read
pub record Deed : Type 1 where
  pub writes : List ℕ → List ℕ → Type 0
  pub begins : List ℕ → Bool → List ℕ → Type 0
  pub nears : List ℕ → Bool → (held held' : Option (List ℕ)) → Type 0
  pub counts : List ℕ → List Occurrence → Type 0
  pub measured : Bool

-- a text was read to its end, and this is so of it
pub record WholeText (Is : List ℕ → Type 0) (left left' : Option (List ℕ)) : Type 0 where
  pub text : List ℕ
  pub reads : ReadsText text left left'
  pub is : Is text

-- some of a text was read, and this is so of that
pub record SomeText (Is : List ℕ → Bool → Type 0) (left left' : Option (List ℕ)) : Type 0 where
  pub given : List ℕ
  pub ended : Bool
  pub read : Consumes left left' given
  pub at_end : ended ≡ true → IsAtEnd left'
  pub is : Is given ended

-- a stream has ended, and this is so of what it gave
pub record WholeStream {R : Type 0} (S : SourceGhosts R) (Is : List ℕ → Type 0) (source source' : R) : Type 0 where
  pub text : List ℕ
  pub gives : SourceGave S source source' text true
  pub is : Is text

-- some of a stream was read, and this is so of that
pub record SomeStream {R : Type 0} (S : SourceGhosts R) (Is : List ℕ → Bool → Type 0) (source source' : R) : Type 0 where
  pub given : List ℕ
  pub ended : Bool
  pub gives : SourceGave S source source' given ended
  pub is : Is given ended

-- what is this of a text was written
abbrev pub WrittenAs : (List ℕ → List ℕ → Type 0) → (held held' : Option (List ℕ)) → List ℕ → Type 0
WrittenAs Is held held' text = (redaction : List ℕ) × Is text redaction × Appends held held' redaction

-- or of some first bytes of one
abbrev pub BegunAs : (List ℕ → Bool → List ℕ → Type 0) → (held held' : Option (List ℕ)) → List ℕ → Bool → Type 0
BegunAs Begins held held' given ended = (part : List ℕ) × Begins given ended part × Appends held held' part
