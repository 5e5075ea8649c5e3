-- What is seen of instances in a run, and when.
pub mod Moments
-- What is known of each instance, and what its moments make of it.
pub mod Rows
-- The arrows of a picture: from where an event came that started an instance, to where the instance's life begins.
pub mod Arrows
-- The parts of a picture.
pub mod Charts
-- The picture as a text.
pub mod Svg
-- How long each start took.
pub mod Blame
