-- The small cases: once the definitions are opened, what is left computes.
use Rattle.std.proofs.Common.{refl}
use Rattle.std.specs.Fmt.{digits}
use Rattle.grammar.specs.Texts.{text, receipt_text, identifier_text, ranges_text, range_texts, final_text}
use Rattle.office.specs.Accepted.{is_accepted}
use Rattle.office.specs.Deliveries.{delivers}
use Rattle.office.specs.Destinations.{accepts, ranges_of}
use Rattle.office.specs.Reads.{reads}
use Rattle.pieces.specs.Attributes.{range_text}
use Rattle.pieces.specs.Tags.{tag_text}
use Rattle.cases.specs.Ends.{created_office, after_letter, accepted_1_2_4}
use Rattle.cases.specs.SmallCases.{SmallCases}

pub small_cases : SmallCases
unfolding text receipt_text identifier_text ranges_text range_texts final_text range_text tag_text digits
    is_accepted delivers accepts ranges_of reads created_office after_letter accepted_1_2_4
small_cases =
    record {
      nothing_accepted = (refl, refl);
      three_missing = λ a b c. (refl, refl, refl);
      letter_size = λ bytes. (λ h. rw h, λ h. record { refused = rw h; numbered = refl });
      window_full = (refl, refl, λ bytes h. record { refused = rw h; numbered = refl });
      eight_places = λ letter. (refl, refl, refl);
      gap_of_sixty = (refl, refl, refl, refl);
      limit_of_one = (refl, λ bytes h. record { refused = rw h; numbered = refl });
      upper_too_high = (refl, λ ranges credit h. record { refused = rw h; numbered = refl });
      leave_in_range = (refl, refl);
    }
