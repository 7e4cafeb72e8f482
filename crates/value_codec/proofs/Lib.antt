mod WorkedWriting
pub mod Alignments
pub mod Complements
pub mod DraftingLaws
pub mod DynamicLaws
pub mod FieldLaws
pub mod MemberLaws
pub mod ReadingAnswers
pub mod ReadingFields
pub mod ReadingLaws
pub mod ReadingMembers
pub mod ReadingRest
pub mod ReadingSteps
pub mod SignedNumbers
pub mod StoppingLaws
pub mod WorkedReading
pub mod WritingLaws
