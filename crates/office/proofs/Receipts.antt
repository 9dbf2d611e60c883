-- The acknowledgement of an office's end is exact.
use Rattle.std.proofs.Common.{◌≡◌, ◌≤◌, length, refl}
use Rattle.frame.specs.Bounds.{M}
use Rattle.office.specs.Accepted.{Exact, is_accepted}
use Rattle.office.specs.Destinations.{Destination, ranges_of, credit_of}
use Rattle.office.specs.Places.{Numbered}
use Rattle.office.proofs.RunLaws.{at_most_five, apart, names_accepted}

-- what every office's end of the code keeps
pub record Sound (o : Destination) : Type 0 where
  pub eight : length o.places ≡ 8
  pub counted : o.delivered ≤ M
  pub numbered : Numbered o.delivered o.places

pub exact : (o : Destination) → Sound o → Exact o (ranges_of o) (credit_of o)
unfolding ranges_of is_accepted
exact o s =
    record {
      names = names_accepted o.delivered o.places s.eight s.counted s.numbered;
      few = at_most_five o.delivered o.places s.eight s.counted s.numbered;
      apart = apart o.delivered o.places s.eight s.counted s.numbered;
      room = refl;
    }
