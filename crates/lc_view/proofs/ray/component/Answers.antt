use Rattle.lc_view.proofs.RayLemmas.{up_fits, two_terms_fit, three_terms_fit, component_is, component_small}
use Rattle.lc_view.proofs.ray.component.Goals as goal

pub overflow_add-result : goal.overflow_add-result
overflow_add-result c = two_terms_fit c.args.forward c.args.depth c.args.right c.args.x c.args.up c.args.y c.requires.forward c.requires.depth c.requires.right c.requires.x c.requires.up c.requires.y

pub overflow_mul-result-3 : goal.overflow_mul-result-3
overflow_mul-result-3 c = up_fits c.args.forward c.args.depth c.args.right c.args.x c.args.up c.args.y c.requires.forward c.requires.depth c.requires.right c.requires.x c.requires.up c.requires.y

pub overflow_add-result-2 : goal.overflow_add-result-2
overflow_add-result-2 c = three_terms_fit c.args.forward c.args.depth c.args.right c.args.x c.args.up c.args.y c.requires.forward c.requires.depth c.requires.right c.requires.x c.requires.up c.requires.y

pub returns-clause-value : goal.returns-clause-value
returns-clause-value c = component_is c.args.forward c.args.depth c.args.right c.args.x c.args.up c.args.y c.requires.forward c.requires.depth c.requires.right c.requires.x c.requires.up c.requires.y

pub returns-clause-most : goal.returns-clause-most
returns-clause-most c =
    rw (returns-clause-value c)
    (component_small c.args.forward c.args.depth c.args.right c.args.x c.args.up c.args.y c.requires.forward c.requires.depth c.requires.right c.requires.x c.requires.up c.requires.y)
