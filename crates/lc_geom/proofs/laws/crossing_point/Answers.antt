use Rattle.lc_geom.proofs.CrossingPoint.{mean_x, mean_y, mean_z, volumes_total, off_start, off_end, inside}
use Rattle.lc_geom.proofs.laws.crossing_point.Goals as goal

pub returns-clause-x : goal.returns-clause-x
returns-clause-x c = mean_x

pub returns-clause-y : goal.returns-clause-y
returns-clause-y c = mean_y

pub returns-clause-z : goal.returns-clause-z
returns-clause-z c = mean_z

pub returns-clause-sum : goal.returns-clause-sum
returns-clause-sum c = volumes_total

pub returns-clause-start_off : goal.returns-clause-start_off
returns-clause-start_off c = off_start

pub returns-clause-end_off : goal.returns-clause-end_off
returns-clause-end_off c = off_end

pub returns-clause-inside : goal.returns-clause-inside
returns-clause-inside c = inside
