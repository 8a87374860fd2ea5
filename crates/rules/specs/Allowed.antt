-- Where `IsRefused` and `IsAdmitted` stood before they moved to Answers.
pub use Rattle.rules.specs.Answers.{IsRefused, IsAdmitted}
