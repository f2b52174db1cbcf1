mod AnswerLaws
mod RowLaws
