use Rattle.fork_commands.proofs.Cited.{◌≡◌, refl, codes, digits, day_in, moment, moment_text}

-- Worked dates, as Python's datetime reckons them.

midnight : (moment_text (moment 0) ≡ codes "1904-01-01T00:00:00") × (moment_text (moment 86399) ≡ codes "1904-01-01T23:59:59")
unfolding day_in digits
midnight = (refl, refl)

-- the first leap day, and the day after it
leap : (moment_text (moment 5097600) ≡ codes "1904-02-29T00:00:00") × (moment_text (moment 5184000) ≡ codes "1904-03-01T00:00:00")
unfolding day_in digits
leap = (refl, refl)

-- the beginning of the year 2000, and the last second that 32 bits count
millennium : moment_text (moment 3029529600) ≡ codes "2000-01-01T00:00:00"
unfolding day_in digits
millennium = refl

last : moment_text (moment 4294967295) ≡ codes "2040-02-06T06:28:15"
unfolding day_in digits
last = refl

-- the year 2000 is a leap year, and 2100 is none
centuries : (moment_text (moment 3034627200) ≡ codes "2000-02-29T00:00:00")
    × (moment_text (moment 6190387200) ≡ codes "2100-03-01T00:00:00")
unfolding day_in digits
centuries = (refl, refl)

-- 400 years later, and far away
later : (moment_text (moment 12622780800) ≡ codes "2304-01-01T00:00:00")
    × (moment_text (moment 253402300800) ≡ codes "9933-12-31T00:00:00")
unfolding day_in digits
later = (refl, refl)
