-- Files of which no line is at fault, and which lines are passed over in them. Nothing here needs to be believed: `sound-scanned` tells when a file is
-- such, and `passed_over` what is known of such a line.
pub mod Sound
pub mod Passing
pub mod Left
