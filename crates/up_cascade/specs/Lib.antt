-- Which jobs don't hear of an event.
pub mod Unheard
-- What holds between two steps.
pub mod Unfired
-- The expressions that are still to be offered the event of a step, in order.
pub mod Offering
-- What doing what is due comes to, one instance after another.
pub mod Settling
-- Jobs by their names.
pub mod Naming
-- What is said of each history for which a book stands, and of those who hold an instance in it.
pub mod Histories
