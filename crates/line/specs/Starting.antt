-- A line as it is made from settings, two transports and a taker: fresh where nothing waits in the transports.
use Rattle.std.specs.Prelude.{◌≡◌, []}
use Rattle.line.specs.Meaning.{model}
use Rattle.line.specs.declared.line.Line as code
use Rattle.office.specs.Destinations as office
use Rattle.planner.specs.Settings.{Chosen, values}
use Rattle.planner.specs.Starting as planner
use Rattle.planner.specs.declared.settings.Settings.{Settings}
use Rattle.protocol.specs.Lines.{Line, Fresh}
use Rattle.taker.specs.Steps.{Page}
use Rattle.taker.specs.declared.taker.Taker as taker
use Rattle.transport.specs.Meaning.{Frames}
use Rattle.transport.specs.declared.transport.Transport as transport

abbrev pub starts : Chosen → Frames → Frames → Page → Line
starts chosen out back page =
    record {
      planner = planner.fresh chosen.gap chosen.limit;
      office = office.fresh chosen.identifier chosen.admits;
      out = out;
      back = back;
      page = page;
    }

module _ {O B K : Type 0} (o : transport.Ghosts O) (b : transport.Ghosts B) (k : taker.Ghosts K) where
  pub record Started (settings : Settings) (outward : O) (back : B) (taker : K) (l : code.Line O B K) : Type 0 where
    pub is : model o b k l ≡ starts (values settings) (o.waiting outward) (b.waiting back) (k.page taker)
    pub fresh : o.waiting outward ≡ [] → b.waiting back ≡ [] → Fresh (model o b k l)
