-- Any two outcomes that the contract of `first` or `next` allows are equal.
pub use Rattle.theory.specs.lister.OneListerAnswer.{lister_answer_one}
