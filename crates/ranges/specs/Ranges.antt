-- Records: the ranges of what is neither a kind nor a flag.
-- Assumes nothing.
use Rattle.std.specs.Prelude.{ℕ, Bool, not, ◌&&◌, ◌||◌, eqb, leb}

-- the two waits, in seconds, and the one alert
abbrev pub wait_short : ℕ
wait_short = 1

abbrev pub wait_long : ℕ
wait_long = 5

abbrev pub alert_shed : ℕ
alert_shed = 0x346

abbrev pub dwell_in_range : ℕ → Bool
dwell_in_range n = leb 1 n && leb n 86_400

abbrev pub mask_in_range : ℕ → Bool
mask_in_range n = not (eqb n 0)

abbrev pub wait_in_range : ℕ → Bool
wait_in_range n = eqb n wait_short || eqb n wait_long

abbrev pub alert_in_range : ℕ → Bool
alert_in_range n = eqb n alert_shed
