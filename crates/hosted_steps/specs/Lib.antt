pub mod DevicePages
-- Which step the hart has left to the host
pub mod ExitCases
-- What a step of the hart is to the machine
pub mod HartSteps
