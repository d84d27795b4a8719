use Rattle.std.proofs.Common.{rules}
use Rattle.lc_light.proofs.AreaLemmas.{read_coordinate, same_vector}
use Rattle.lc_light.proofs.area.Area.place_by.Goals as goal

pub returns : goal.returns
returns c =
    let area = c.args.self.now in
    same_vector _ _ _ _ _ _
    (read_coordinate c.args.word c.coordinate_by.result area.corner.x area.along.x area.across.x (search rules) (search rules) (search rules) (search rules) c.coordinate_by.ensures)
    (read_coordinate c.args.word c.coordinate_by-2.result area.corner.y area.along.y area.across.y (search rules) (search rules) (search rules) (search rules) c.coordinate_by-2.ensures)
    (read_coordinate c.args.word c.coordinate_by-3.result area.corner.z area.along.z area.across.z (search rules) (search rules) (search rules) (search rules) c.coordinate_by-3.ensures)
