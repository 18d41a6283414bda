-- Laws of the definitions in specs/, by what they are about. Crates above cite these and not the definitions' texts; the first line of each file says
-- what it has.

-- faults, limits and numbers
pub mod FaultLaws
pub mod Answered
pub mod Form
pub mod Limits
pub mod Accepting
pub mod Numbers
pub mod Distinct
-- what each call does, and that it keeps a network within limits
pub mod Effects
pub mod Keeping
-- a round: marks, words of arcs, offers, the choice, and its limits
pub mod Reports
pub mod Marking
pub mod Arcs
pub mod Offers
pub mod Choosing
pub mod RoundLimits
-- grades
pub mod Grades
-- the route call
pub mod Walking
pub mod RouteLaws
