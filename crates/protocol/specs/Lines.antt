-- A line in numbers and lists: its two ends, the frames that wait each way, and the taker's page.
-- A reader has to believe that this is all of a line that its calls can touch.
use Rattle.std.specs.Prelude.{◌≡◌, ℕ, ◌≤◌, []}
use Rattle.frame.specs.Bounds.{IsIdentifier, IsNumber}
use Rattle.office.specs.Destinations as office
use Rattle.office.specs.Destinations.{Destination}
use Rattle.planner.specs.Settings.{Chosen}
use Rattle.planner.specs.Sources.{Source}
use Rattle.planner.specs.Starting as planner
use Rattle.taker.specs.Steps.{Page, Step}
use Rattle.transport.specs.Meaning.{Frames}

-- what a line stands over: the depths of its transports outward and back, and its taker's step
pub record Over : Type 0 where
  pub depth_out : ℕ
  pub depth_back : ℕ
  pub step : Step

pub record Line : Type 0 where
  pub planner : Source
  pub office : Destination
  -- the frames that wait outward, and those that wait back
  pub out : Frames
  pub back : Frames
  pub page : Page

-- settings within bounds
pub record Valid (chosen : Chosen) : Type 0 where
  pub identifier : IsIdentifier chosen.identifier
  pub gap : 1 ≤ chosen.gap
  pub limit : IsNumber chosen.limit

-- a line at its start: nothing opened, written, accepted or waiting, and any page, called the first page
pub record Fresh (L : Line) : Type 0 where
  pub settings : Chosen
  pub valid : Valid settings
  pub planner : L.planner ≡ planner.fresh settings.gap settings.limit
  pub office : L.office ≡ office.fresh settings.identifier settings.admits
  pub out : L.out ≡ []
  pub back : L.back ≡ []
