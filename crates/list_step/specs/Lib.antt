pub mod CountsByValue
pub mod Turn
pub mod Priority
pub mod RankLaws
pub mod OneAnswer
