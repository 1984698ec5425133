-- Laws that belong to no one function.
mod ThrowingLaws
mod IntentLaws
mod CarryLaws
mod RunLaws
