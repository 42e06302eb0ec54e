-- The starred dates of 01, and the cases that are easily misread, as facts of the definitions. Assumes nothing.
use Rattle.std.specs.Prelude.{Some, None, Ok}
use mathlib.Core.Path.{◌≡◌, refl}
use mathlib.Core.List.{[], ◌∷◌}
use lib.IntN.{pos}
use lib.Ieee.{binary64, neg, of_int}
use Rattle.calendar.specs.Calendar.{total}
use Rattle.utf8.specs.Utf8.{all, chars_from, char_len}
use Rattle.seconds.specs.Seconds.{timestamp_of}
use Rattle.timestamp.specs.Dates.{has_shape, date_of, digit_before, moment_of, moment_in, is_dashed, is_dotted, first_from, noon_in, second_in, infer_timestamp}

-- `2024.03.01` is 1709294400; `2023.02.29/2024.03.01` none; `12024-03-01-0000` none; `0000-01-01-0000` is -62167219200
pub starred : (infer_timestamp (50 ∷ 48 ∷ 50 ∷ 52 ∷ 46 ∷ 48 ∷ 51 ∷ 46 ∷ 48 ∷ 49 ∷ []) ≡ Ok (Some (of_int binary64 (pos 1709294400))))
    × (infer_timestamp (50 ∷ 48 ∷ 50 ∷ 51 ∷ 46 ∷ 48 ∷ 50 ∷ 46 ∷ 50 ∷ 57 ∷ 47 ∷ 50 ∷ 48 ∷ 50 ∷ 52 ∷ 46 ∷ 48 ∷ 51 ∷ 46 ∷ 48 ∷ 49 ∷ []) ≡ (Ok None))
    × (infer_timestamp (49 ∷ 50 ∷ 48 ∷ 50 ∷ 52 ∷ 45 ∷ 48 ∷ 51 ∷ 45 ∷ 48 ∷ 49 ∷ 45 ∷ 48 ∷ 48 ∷ 48 ∷ 48 ∷ []) ≡ (Ok None))
    × (infer_timestamp (48 ∷ 48 ∷ 48 ∷ 48 ∷ 45 ∷ 48 ∷ 49 ∷ 45 ∷ 48 ∷ 49 ∷ 45 ∷ 48 ∷ 48 ∷ 48 ∷ 48 ∷ []) ≡ Ok (Some (neg (of_int binary64 (pos 62167219200)))))
unfolding timestamp_of infer_timestamp second_in noon_in first_from is_dashed is_dotted digit_before moment_in moment_of date_of has_shape total all chars_from char_len
starred = (refl, refl, refl, refl)

-- the digit before counts for dashes only: `12024.03.01` is 1709294400; candidates may overlap: `2024-13-01-2024-03-01-0000` is 1709251200
pub misread : (infer_timestamp (49 ∷ 50 ∷ 48 ∷ 50 ∷ 52 ∷ 46 ∷ 48 ∷ 51 ∷ 46 ∷ 48 ∷ 49 ∷ []) ≡ Ok (Some (of_int binary64 (pos 1709294400))))
    × (infer_timestamp (50 ∷ 48 ∷ 50 ∷ 52 ∷ 45 ∷ 49 ∷ 51 ∷ 45 ∷ 48 ∷ 49 ∷ 45 ∷ 50 ∷ 48 ∷ 50 ∷ 52 ∷ 45 ∷ 48 ∷ 51 ∷ 45 ∷ 48 ∷ 49 ∷ 45 ∷ 48 ∷ 48 ∷ 48 ∷ 48 ∷ []) ≡ Ok (Some (of_int binary64 (pos 1709251200))))
unfolding timestamp_of infer_timestamp second_in noon_in first_from is_dashed is_dotted digit_before moment_in moment_of date_of has_shape total all chars_from char_len
misread = (refl, refl)
